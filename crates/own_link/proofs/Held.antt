-- Memory of the own image holds each piece: at each of its addresses the byte that is wanted there.
use Rattle.std.proofs.Common.{◌≡◌, ℕ, ◌+◌, ◌<◌, ◌≤◌, ◌⊎◌, inl, inr, true, false, List, sym, ◌∙◌, ap, arith}
use Rattle.std.specs.Prelude.{Contains, Some, option_map}
use Rattle.std.proofs.lemmas.Bool.{cases_Bool, cases_lt}
use Rattle.elf_model.specs.Own.ImageFile.{HeaderFields}
use Rattle.elf_model.specs.Image.MemoryImage.{Cell, segment_byte}
use Rattle.elf_model.specs.Own.OwnLayout.{placed_has_bytes}
use Rattle.elf_model.specs.Link.Placement.{Placed}
use Rattle.elf_model.specs.Image.RightLink.{byte_at}
use Rattle.elf_model.proofs.Addresses.{maps-true}
use Rattle.own_link.proofs.Bytes.{byte_here, file_byte, memory_at, piece_byte, zero_byte}
use Rattle.own_link.proofs.ImageRead.{IsOwnFile}
use Rattle.own_link.proofs.SegmentHeaders.{AreOwnSegments, own_segments_good}
use Rattle.own_link.proofs.SegmentPieces.{ArePlacedIn, IsInPart, segment_of_piece}
use Rattle.own_link.proofs.Segments.{AreGoodParts, Part, part_header, segments_of}

module _ (base size : ℕ) (parts : List Part) (good : AreGoodParts base size parts) (placed order : List Placed) (stand : ArePlacedIn parts placed order) (want : Placed → ℕ → ℕ) (zero_filled : (q : Placed) (k : ℕ) → Contains placed q → placed_has_bytes q ≡ false → want q k ≡ 0) (image : List ℕ) (fields : HeaderFields) (count : ℕ) (file : IsOwnFile image fields count base size (segments_of base parts) (byte_here want (segments_of base parts) placed)) where
  own : AreOwnSegments base size (segments_of base parts)
  own = own_segments_good base size parts good

  -- in the file part stands the byte that is wanted; behind it a piece without bytes wants 0
  held_byte :
      (q : Placed) (k : ℕ) → Contains placed q → k < q.piece.size → (i : IsInPart base size parts q) →
      segment_byte image (part_header base i.part) (q.at + k) ≡ want q k
  held_byte q k there within i =
      by (cases_lt (q.at + k) ((part_header base i.part).p_vaddr + (part_header base i.part).p_filesz)) (cases_Bool (placed_has_bytes q))
    where
      by :
          ((q.at + k < (part_header base i.part).p_vaddr + (part_header base i.part).p_filesz)
          ⊎ ((part_header base i.part).p_vaddr + (part_header base i.part).p_filesz ≤ q.at + k)) →
          ((placed_has_bytes q ≡ true) ⊎ (placed_has_bytes q ≡ false)) →
          segment_byte image (part_header base i.part) (q.at + k) ≡ want q k
      by (inl inside) b =
          let l = i.low in
          let s = i.behind in
          file_byte base size (segments_of base parts) own image fields count (byte_here want (segments_of base parts) placed) file
          (q.at + k) (part_header base i.part) i.segment (omega (arith, l)) inside (omega (arith, s))
          ∙ piece_byte want (segments_of base parts) placed stand.apart q k there within
      by (inr beyond) (inl b) = absurd (let f = i.file b in omega (arith, f, beyond, within))
      by (inr beyond) (inr z) =
          zero_byte base size (segments_of base parts) own image fields count (byte_here want (segments_of base parts) placed) file
          (q.at + k) (part_header base i.part) beyond
          ∙ sym (zero_filled q k there z)

  pub own_holds : (q : Placed) → Contains order q → (k : ℕ) → k < q.piece.size → byte_at image (q.at + k) ≡ Some (want q k)
  own_holds q c k within =
      let there = stand.listed q c in
      let i = segment_of_piece base size parts good placed order stand q there (omega (arith, within)) in
      let l = i.low in
      let h = i.high in
      let m = maps-true (part_header base i.part) (q.at + k) (omega (arith, l)) (omega (arith, h, within)) in
      ap (option_map (λ (c : Cell). c.byte))
      (memory_at base size (segments_of base parts) own image fields count (byte_here want (segments_of base parts) placed) file
      (q.at + k) (part_header base i.part) i.segment m)
      ∙ ap Some (held_byte q k there within i)
