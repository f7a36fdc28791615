-- Each nonempty piece lies in the segment that lists it.
use Rattle.std.proofs.Common.{◌≡◌, ℕ, ◌+◌, ◌<◌, ◌≤◌, ◌⊎◌, inl, inr, true, false, List, refl, sym, subst, arith}
use Rattle.std.specs.Prelude.{AllPairs, Contains}
use Rattle.std.specs.List.{flat_map}
use Rattle.std.proofs.lemmas.Bool.{cases_Bool}
use Rattle.std.proofs.lemmas.List.Elements.{All-contains}
use Rattle.elf_model.specs.Own.OwnLayout.{any_placed, placed_end, placed_has_bytes}
use Rattle.elf_model.specs.Link.Placement.{Placed}
use Rattle.own_link.proofs.Ends.{EndsBelow, greatest_end-holds}
use Rattle.elf_model.proofs.Listed.{Contains-flat_map, Contains-from_flat_map}
use Rattle.own_link.proofs.SegmentHeaders.{part_file_ends, part_from, part_memory_end, segment_there}
use Rattle.own_link.proofs.Segments.{AreGoodParts, IsGoodPart, Part, part_end, part_file_end, part_header, segments_of}

-- the placed pieces are those of the segments, stand apart, and are the pieces of another order
pub record ArePlacedIn (parts : List Part) (placed order : List Placed) : Type 0 where
  pub joined : placed ≡ flat_map (λ p. p.placed) parts
  pub apart : AllPairs (λ p q. (placed_end p ≤ q.at) ⊎ (placed_end q ≤ p.at)) placed
  pub listed : (q : Placed) → Contains order q → Contains placed q
  pub all : (q : Placed) → Contains placed q → Contains order q

-- a piece in a segment that is there
pub record IsInPart (base size : ℕ) (parts : List Part) (q : Placed) : Type 0 where
  pub part : Part
  pub of_parts : Contains parts part
  pub there : part.there ≡ true
  pub good : IsGoodPart base size part
  pub holds : Contains part.placed q
  pub segment : Contains (segments_of base parts) (part_header base part)
  pub behind : base + size ≤ q.at
  pub low : (part_header base part).p_vaddr ≤ q.at
  pub high : placed_end q ≤ (part_header base part).p_vaddr + (part_header base part).p_memsz
  pub file : placed_has_bytes q ≡ true → placed_end q ≤ (part_header base part).p_vaddr + (part_header base part).p_filesz

-- the pieces of a segment end at or below its ends
pub within_part :
    (base size : ℕ) (p : Part) (q : Placed) → IsGoodPart base size p → p.there ≡ true → Contains p.placed q → 0 < q.piece.size →
    (placed_end q ≤ (part_header base p).p_vaddr + (part_header base p).p_memsz)
    × (placed_has_bytes q ≡ true → placed_end q ≤ (part_header base p).p_vaddr + (part_header base p).p_filesz)
within_part base size p q good there holds some =
    let e = part_memory_end base size p good there in
    let f = part_file_ends base size p good in
    let m = All-contains (EndsBelow any_placed (part_end p)) p.placed q (greatest_end-holds any_placed p.from p.placed (part_end p) (omega arith)) holds refl some in (
      omega (arith, e, m),
      λ b.
          let n = All-contains (EndsBelow placed_has_bytes (part_file_end p)) p.placed q (greatest_end-holds placed_has_bytes p.from p.placed (part_file_end p) (omega arith)) holds b some in
          omega (arith, f, n),
    )

module _ (base size : ℕ) (parts : List Part) (good : AreGoodParts base size parts) (placed order : List Placed) (stand : ArePlacedIn parts placed order) where
  -- a segment that lists a nonempty piece is there
  in_part : (p : Part) (q : Placed) → Contains parts p → Contains p.placed q → 0 < q.piece.size → IsInPart base size parts q
  in_part p q c holds some = by (cases_Bool p.there)
    where
      g : IsGoodPart base size p
      g = All-contains (IsGoodPart base size) parts p good.each c

      by : (p.there ≡ true) ⊎ (p.there ≡ false) → IsInPart base size parts q
      by (inr absent) = absurd (let z = All-contains (λ (r : Placed). r.piece.size ≡ 0) p.placed q (g.none absent) holds in omega (arith, z, some))
      by (inl there) =
          let w = within_part base size p q g there holds some in
          let f = part_from base size p g in
          let a = All-contains (λ (r : Placed). p.from ≤ r.at) p.placed q g.pieces_from holds in
          record {
            part = p;
            of_parts = c;
            there = there;
            good = g;
            holds = holds;
            segment = segment_there base size parts good p c there;
            behind = omega (arith, f, a);
            low = omega (arith, f, a);
            high = w.0;
            file = w.1;
          }

  pub segment_of_piece : (q : Placed) → Contains placed q → 0 < q.piece.size → IsInPart base size parts q
  segment_of_piece q there some =
      let i = Contains-from_flat_map (λ (p : Part). p.placed) parts q (subst (λ (qs : List Placed). Contains qs q) stand.joined there) in
      in_part i.of q i.there i.within some

  -- a piece of a segment is one of the pieces, and in the other order
  pub listed_piece : (p : Part) (q : Placed) → Contains parts p → Contains p.placed q → Contains order q
  listed_piece p q c holds =
      stand.all q
      (subst (λ (qs : List Placed). Contains qs q) (sym stand.joined) (Contains-flat_map (λ (r : Part). r.placed) parts p q c holds))
