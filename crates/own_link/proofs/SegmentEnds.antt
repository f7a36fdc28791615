-- Each segment's memory and file part end with the last of their things.
use Rattle.std.proofs.Common.{◌≡◌, ℕ, ◌+◌, ◌<◌, ◌≤◌, ◌⊎◌, inl, inr, Bool, true, List, refl, subst, arith}
use Rattle.std.specs.Prelude.{All, Any, Contains, map}
use Rattle.std.proofs.lemmas.List.Elements.{All-cons, All-contains}
use Rattle.elf_model.specs.Own.OwnLayout.{any_placed, placed_end, placed_has_bytes}
use Rattle.elf_model.specs.Link.Placement.{Placed, range_of}
use Rattle.elf_model.specs.Image.RightLink.{EndsRight, IsOfSegment}
use Rattle.elf_model.specs.declared.records.ProgramHeader.{ProgramHeader}
use Rattle.elf_model.specs.declared.thing.Thing.{Thing}
use Rattle.elf_model.proofs.Addresses.{maps-true}
use Rattle.own_link.proofs.Bytes.{one_segment}
use Rattle.own_link.proofs.Ends.{Reaches, greatest_end-from, greatest_end-less, greatest_end-reached}
use Rattle.elf_model.proofs.Finding.{Any-from_contains, Any-here}
use Rattle.elf_model.proofs.Listed.{All-from_contains, Contains-from_map, Contains-map, Contains-there}
use Rattle.own_link.proofs.OwnThings.{headers_of, things_in}
use Rattle.own_link.proofs.SegmentHeaders.{All-segments, own_segments_good, part_file_ends, part_from, part_memory_end, segment_there}
use Rattle.own_link.proofs.SegmentPieces.{ArePlacedIn, listed_piece, segment_of_piece}
use Rattle.own_link.proofs.Segments.{AreGoodParts, IsGoodPart, Part, part_end, part_file_end, part_header, segments_of}

module _ (base size : ℕ) (parts : List Part) (good : AreGoodParts base size parts) (placed order : List Placed) (stand : ArePlacedIn parts placed order) (some_headers : 0 < size) where
  -- the thing of a piece is among the things, and what holds of the headers and of each piece's holds of all
  thing_there : (q : Placed) → Contains order q → Contains (things_in base size order) (range_of q)
  thing_there q c = Contains-there (headers_of base size) (map range_of order) (range_of q) (Contains-map range_of order q c)

  all_things :
      (P : Thing → Type 0) → P (headers_of base size) → ((q : Placed) → Contains order q → P (range_of q)) →
      All P (things_in base size order)
  all_things P headers pieces =
      All-cons P (headers_of base size) (map range_of order) headers
      (All-from_contains P (map range_of order) (λ t c.
      let i = Contains-from_map range_of order t c in
      subst P i.is (pieces i.of i.there)))

  -- a segment's end that is the greatest of its pieces' ends or of their beginning is the end of a thing
  module _ (p : Part) (c : Contains parts p) (there : p.there ≡ true) (g : IsGoodPart base size p) where
    piece_in : (q : Placed) → Contains p.placed q → 0 < q.piece.size → placed_end q ≤ part_end p → IsOfSegment (part_header base p) (range_of q)
    piece_in q holds some below =
        let f = part_from base size p g in
        let a = All-contains (λ (r : Placed). p.from ≤ r.at) p.placed q g.pieces_from holds in
        let e = part_memory_end base size p g there in
        record { some_bytes = some; inside = (omega (arith, f, a), omega (arith, e, below)) }

    headers_in : p.start ≡ base → p.from ≡ base + size → IsOfSegment (part_header base p) (headers_of base size)
    headers_in s f =
        let e = part_memory_end base size p g there in
        let l = greatest_end-from any_placed p.from p.placed in
        record { some_bytes = some_headers; inside = (omega (arith, s), omega (arith, e, l, f)) }

    ends_with :
        (P : Thing → Type 0) (test : Placed → Bool) (n : ℕ) → p.start < n → n ≤ part_end p →
        ((n ≡ p.from) ⊎ Any (Reaches test n) p.placed) →
        (IsOfSegment (part_header base p) (headers_of base size) → base + size ≡ n → P (headers_of base size)) →
        ((q : Placed) → IsOfSegment (part_header base p) (range_of q) → test q ≡ true → placed_end q ≡ n → P (range_of q)) →
        Any P (things_in base size order)
    ends_with P test n some below (inl start) headers piece = by g.begins
      where
        by : ((p.start ≡ base) × (p.from ≡ base + size)) ⊎ ((p.from ≡ p.start) × (base + size ≤ p.start)) → Any P (things_in base size order)
        by (inl front) =
            Any-here P (headers_of base size) (map range_of order) (headers (headers_in front.0 front.1) (omega (arith, start, front)))
        by (inr later) = absurd (omega (arith, start, later, some))
    ends_with P test n some below (inr a) headers piece =
        let r = a.4 in
        let holds : Contains p.placed a.1 = (a.0, a.2, a.3) in
        let e = r.end in
        Any-from_contains P (things_in base size order) (range_of a.1)
        (thing_there a.1 (listed_piece base size parts good placed order stand p a.1 c holds))
        (piece a.1 (piece_in a.1 holds r.some (omega (arith, e, below))) r.passes r.end)

    -- a thing of the segment that is in the file ends in the file part
    headers_end : IsOfSegment (part_header base p) (headers_of base size) → base + size ≤ (part_header base p).p_vaddr + (part_header base p).p_filesz
    headers_end inside = by g.begins
      where
        by : ((p.start ≡ base) × (p.from ≡ base + size)) ⊎ ((p.from ≡ p.start) × (base + size ≤ p.start)) → base + size ≤ (part_header base p).p_vaddr + (part_header base p).p_filesz
        by (inl front) =
            let f = greatest_end-from placed_has_bytes p.from p.placed in
            omega (arith, f, front)
        by (inr later) = absurd (let i = inside.inside.0 in omega (arith, i, later, some_headers))

    piece_ends :
        (q : Placed) → Contains order q → IsOfSegment (part_header base p) (range_of q) → placed_has_bytes q ≡ true →
        placed_end q ≤ (part_header base p).p_vaddr + (part_header base p).p_filesz
    piece_ends q listed inside bytes =
        let some : 0 < q.piece.size = inside.some_bytes in
        let i = segment_of_piece base size parts good placed order stand q (stand.listed q listed) some in
        let own = own_segments_good base size parts good in
        let l = i.low in
        let h = i.high in
        let m = inside.inside in
        let mine : Contains (segments_of base parts) (part_header base p) = segment_there base size parts good p c there in
        let same : part_header base i.part ≡ part_header base p =
        one_segment base size (segments_of base parts) own q.at (part_header base i.part) (part_header base p) i.segment mine
        (maps-true (part_header base i.part) q.at l (omega (arith, h, some)))
        (maps-true (part_header base p) q.at m.0 (omega (arith, m.1, some))) in
        subst (λ (x : ProgramHeader). placed_end q ≤ x.p_vaddr + x.p_filesz) same (i.file bytes)

    pub ends_right : EndsRight (things_in base size order) (part_header base p)
    ends_right =
        let h : ProgramHeader = part_header base p in
        let e = part_memory_end base size p g there in
        let f = part_file_ends base size p g in
        let less = greatest_end-less placed_has_bytes p.from p.placed in
        record {
          memory =
              ends_with (λ (t : Thing). IsOfSegment (part_header base p) t × (t.at + t.size ≡ (part_header base p).p_vaddr + (part_header base p).p_memsz))
              any_placed (part_end p) (g.some there) (omega arith) (greatest_end-reached any_placed p.from p.placed)
              (λ i n. (i, omega (arith, n, e))) (λ q i t n. (i, omega (arith, n, e)));
          file_holds =
              all_things (λ (t : Thing). IsOfSegment (part_header base p) t → t.in_file ≡ true → t.at + t.size ≤ (part_header base p).p_vaddr + (part_header base p).p_filesz)
              (λ i b. headers_end i) (λ q listed i b. piece_ends q listed i b);
          file_ends = λ some.
              ends_with (λ (t : Thing). IsOfSegment (part_header base p) t × (t.in_file ≡ true) × (t.at + t.size ≡ (part_header base p).p_vaddr + (part_header base p).p_filesz))
              placed_has_bytes (part_file_end p) (omega (arith, some, f)) less (greatest_end-reached placed_has_bytes p.from p.placed)
              (λ i n. (i, refl, omega (arith, n, f))) (λ q i t n. (i, t, omega (arith, n, f)));
        }

  pub all_end_right : All (EndsRight (things_in base size order)) (segments_of base parts)
  all_end_right = All-segments base size parts good (EndsRight (things_in base size order)) (λ p c there g. ends_right p c there g)
