-- The own image has nothing but its things: fill between them in memory, 0 between file parts, and each
-- segment and the file end with the last of their things.
use Rattle.std.proofs.Common.{◌≡◌, ℕ, ◌+◌, ◌-◌, ◌<◌, ◌≤◌, ◌⊎◌, inl, inr, Bool, true, false, List, [], length, refl, sym, ◌∙◌, ap, subst, arith}
use Rattle.std.specs.Prelude.{All, Contains, Option, None, map, ◌==◌}
use Rattle.std.proofs.lemmas.Bool.{cases_Bool, cases_lt, eqb-true, false_from_ne_true}
use Rattle.std.proofs.lemmas.List.Elements.{All-contains, All-head, All-tail}
use Rattle.elf_model.specs.Own.ImageFile.{HeaderFields, covers_address}
use Rattle.elf_model.specs.Image.MemoryImage.{Cell, file_end, loads, maps, segment_byte}
use Rattle.elf_model.specs.Own.OwnLayout.{placed_end, placed_has_bytes}
use Rattle.elf_model.specs.Link.Placement.{Covers, Placed, range_of}
use Rattle.elf_model.specs.Image.RightLink.{EndsRight, HasNothingElse, IsFilled, IsInFilePart, fill_of}
use Rattle.elf_model.specs.declared.link_map.SymtabLine.{SymtabLine}
use Rattle.elf_model.specs.declared.records.ProgramHeader.{ProgramHeader}
use Rattle.elf_model.specs.declared.thing.Thing.{Thing}
use Rattle.elf_model.proofs.Addresses.{mapped}
use Rattle.own_link.proofs.Bytes.{bare_byte, byte_cases, byte_here, cell_cases, covered, file_byte, fill_in_segment, no_fill, zero_byte}
use Rattle.own_link.proofs.ImageRead.{IsOwnFile, first_good, first_there}
use Rattle.own_link.proofs.ImageRight.{loads_are}
use Rattle.elf_model.proofs.Listed.{All-from_contains, Contains-map}
use Rattle.own_link.proofs.OwnThings.{headers_of, things_in}
use Rattle.own_link.proofs.SegmentHeaders.{AreOwnSegments, IsGoodSegment, own_segments_good}
use Rattle.own_link.proofs.SegmentPieces.{ArePlacedIn, segment_of_piece}
use Rattle.own_link.proofs.Segments.{AreGoodParts, Part, part_header, segments_of}
use Rattle.own_link.proofs.SegmentEnds.{all_end_right}

-- what is read of the file
module _ (base size : ℕ) (parts : List Part) (good : AreGoodParts base size parts) (placed order : List Placed) (stand : ArePlacedIn parts placed order) (some_headers : 0 < size) (want : Placed → ℕ → ℕ) (zero_filled : (q : Placed) (k : ℕ) → Contains placed q → placed_has_bytes q ≡ false → want q k ≡ 0) (image : List ℕ) (fields : HeaderFields) (count : ℕ) (file : IsOwnFile image fields count base size (segments_of base parts) (byte_here want (segments_of base parts) placed)) where
  own : AreOwnSegments base size (segments_of base parts)
  own = own_segments_good base size parts good

  -- outside all things: behind the headers, and in no piece
  outside_headers : (a : ℕ) → base ≤ a → (Covers (headers_of base size) a → ⊥) → base + size ≤ a
  outside_headers a low out = by (cases_lt a (base + size))
    where
      by : ((a < base + size) ⊎ (base + size ≤ a)) → base + size ≤ a
      by (inl inside) = absurd (out (low, inside))
      by (inr behind) = behind

  outside_pieces : (a : ℕ) → All (λ t. Covers t a → ⊥) (map range_of order) → All (λ q. covers_address a q ≡ false) placed
  outside_pieces a out =
      All-from_contains (λ (q : Placed). covers_address a q ≡ false) placed (λ q c.
      false_from_ne_true (covers_address a q) (λ e.
      All-contains (λ (t : Thing). Covers t a → ⊥) (map range_of order) (range_of q) out
      (Contains-map range_of order q (stand.all q c)) (covered a q e)))

  filled_segment :
      (a : ℕ) (h : ProgramHeader) → Contains (segments_of base parts) h → maps h a ≡ true →
      All (λ t. Covers t a → ⊥) (things_in base size order) → segment_byte image h a ≡ fill_of h.p_flags
  filled_segment a h there m out = by (cases_lt a (h.p_vaddr + h.p_filesz))
    where
      good_h : IsGoodSegment base h
      good_h = All-contains (IsGoodSegment base) (segments_of base parts) h own.each there

      bounds : (h.p_vaddr ≤ a) × (a < h.p_vaddr + h.p_memsz)
      bounds = mapped h a m

      no_code : (b : Bool) → (h.p_flags == 5) ≡ b → h.p_vaddr + h.p_filesz ≤ a → 0 ≡ fill_of h.p_flags
      no_code true e behind = absurd (let s = good_h.code (eqb-true h.p_flags 5 e) in omega (arith, s, behind, bounds))
      no_code false e behind = rw e refl

      by : ((a < h.p_vaddr + h.p_filesz) ⊎ (h.p_vaddr + h.p_filesz ≤ a)) → segment_byte image h a ≡ fill_of h.p_flags
      by (inl inside) =
          let o = good_h.offset in
          let low : base ≤ a = omega (arith, bounds, o) in
          let behind = outside_headers a low (All-head (λ (t : Thing). Covers t a → ⊥) (headers_of base size) (map range_of order) out) in
          file_byte base size (segments_of base parts) own image fields count (byte_here want (segments_of base parts) placed) file
          a h there bounds.0 inside behind
          ∙ (bare_byte want (segments_of base parts) placed a
          (outside_pieces a (All-tail (λ (t : Thing). Covers t a → ⊥) (headers_of base size) (map range_of order) out))
          ∙ fill_in_segment base size (segments_of base parts) own a h there bounds.0 inside)
      by (inr behind) =
          zero_byte base size (segments_of base parts) own image fields count (byte_here want (segments_of base parts) placed) file a h behind
          ∙ no_code (h.p_flags == 5) refl behind

  pub own_is_filled : IsFilled image (things_in base size order)
  own_is_filled a c m out =
      cell_cases base size (segments_of base parts) own image fields count (byte_here want (segments_of base parts) placed) file
      (λ (x : Cell). x.byte ≡ fill_of x.rights) a c m (λ h there e. filled_segment a h there e out)

  -- bytes in no file part are 0
  behind_headers : (i : ℕ) → All (λ h. IsInFilePart h i → ⊥) (segments_of base parts) → size ≤ i
  behind_headers i out = by (cases_lt i size)
    where
      by : ((i < size) ⊎ (size ≤ i)) → size ≤ i
      by (inr behind) = behind
      by (inl inside) =
          let t = first_there base size (segments_of base parts) own in
          let o = (first_good base size (segments_of base parts) own).offset in
          let a = own.first_address in
          let h = own.first_holds in
          absurd (All-contains (λ (x : ProgramHeader). IsInFilePart x i → ⊥) (segments_of base parts) own.first out t
          (omega (arith, o, a), omega (arith, o, a, h, inside)))

  gap_byte :
      (i : ℕ) → All (λ h. IsInFilePart h i → ⊥) (segments_of base parts) →
      byte_here want (segments_of base parts) placed (base + i) ≡ 0
  gap_byte i out =
      byte_cases want (segments_of base parts) placed (λ (n : ℕ). n ≡ 0) (base + i) piece
      (no_fill (segments_of base parts) (base + i)
      (All-from_contains (λ (h : ProgramHeader). h.p_vaddr ≤ base + i → h.p_vaddr + h.p_filesz ≤ base + i) (segments_of base parts) beyond))
    where
      beyond : (h : ProgramHeader) → Contains (segments_of base parts) h → h.p_vaddr ≤ base + i → h.p_vaddr + h.p_filesz ≤ base + i
      beyond h c low = by (cases_lt (base + i) (h.p_vaddr + h.p_filesz))
        where
          by : ((base + i < h.p_vaddr + h.p_filesz) ⊎ (h.p_vaddr + h.p_filesz ≤ base + i)) → h.p_vaddr + h.p_filesz ≤ base + i
          by (inr behind) = behind
          by (inl inside) =
              let o = (All-contains (IsGoodSegment base) (segments_of base parts) h own.each c).offset in
              absurd (All-contains (λ (x : ProgramHeader). IsInFilePart x i → ⊥) (segments_of base parts) h out c
              (omega (arith, o, low), omega (arith, o, inside)))

      piece : (q : Placed) → Contains placed q → q.at ≤ base + i → base + i < placed_end q → want q ((base + i) - q.at) ≡ 0
      piece q c low high = by (cases_Bool (placed_has_bytes q))
        where
          by : ((placed_has_bytes q ≡ true) ⊎ (placed_has_bytes q ≡ false)) → want q ((base + i) - q.at) ≡ 0
          by (inr z) = zero_filled q ((base + i) - q.at) c z
          by (inl b) =
              let s = segment_of_piece base size parts good placed order stand q c (omega (arith, low, high)) in
              let e = s.file b in
              let l = s.low in
              let o = (All-contains (IsGoodSegment base) (segments_of base parts) (part_header base s.part) own.each s.segment).offset in
              absurd (All-contains (λ (x : ProgramHeader). IsInFilePart x i → ⊥) (segments_of base parts) (part_header base s.part) out s.segment
              (omega (arith, o, l, low), omega (arith, o, e, high)))

  -- whatever the map says of a table, where there is one only if it says so
  pub own_has_nothing_else :
      (symtab : Option SymtabLine) → (symtab ≡ None → file.tail ≡ []) → HasNothingElse image symtab (things_in base size order)
  own_has_nothing_else symtab bare =
      let ls : loads image ≡ segments_of base parts =
      loads_are base size (segments_of base parts) own image fields count (byte_here want (segments_of base parts) placed) file in
      let ends : file_end (loads image) ≡ file_end (segments_of base parts) = ap file_end ls in
      record {
        fill = own_is_filled;
        segments = subst (All (EndsRight (things_in base size order))) (sym ls) (all_end_right base size parts good placed order stand some_headers);
        gaps = λ i within out.
            let o = subst (All (λ (h : ProgramHeader). IsInFilePart h i → ⊥)) ls out in
            file.bytes i (behind_headers i o) (omega (arith, ends, within)) ∙ gap_byte i o;
        end = λ none.
            let l = file.len in
            let t : length file.tail ≡ 0 = ap length (bare none) in
            omega (arith, l, t, ends);
      }
