-- The own places follow each other, and their bytes with the fill between them are those of the image file.
use Rattle.std.proofs.Common.{◌≡◌, ◌==◌, ℕ, ◌+◌, ◌-◌, ◌<◌, ◌≤◌, ◌^◌, ◌&&◌, ◌⊎◌, inl, inr, true, false, List, refl, sym, ◌∙◌, ap, subst, arith}
use Rattle.std.specs.Prelude.{All, Any, Contains, map, nat_le, nat_lt}
use Rattle.std.specs.List.{range_with_len}
use Rattle.std.proofs.lemmas.Bool.{and_from, and_parts, cases_Bool, eqb-true, false_from_ne_true, leb-true, ltb-true, lt-ltb, true≢false}
use Rattle.std.proofs.lemmas.List.Elements.{All-contains, Contains-append_left}
use Rattle.std.proofs.lemmas.List.Folds.{list_any_none}
use Rattle.elf_model.specs.Inputs.Command.{IsBase}
use Rattle.elf_model.specs.Own.ImageFile.{covers_address, fill_at, is_code_part, own_byte, piece_byte}
use Rattle.elf_model.specs.Link.Loading.{AreObjects, LoadedObject}
use Rattle.elf_model.specs.Image.MemoryImage.{file_end}
use Rattle.elf_model.specs.Own.OwnLayout.{IsNotTooLarge, is_nonempty, own_headers_size, own_loaded, own_segments, own_thread_rest, own_where, placed_end, placed_has_bytes}
use Rattle.elf_model.specs.Link.Pieces.{AreLawfulKinds}
use Rattle.elf_model.specs.Link.Placement.{Placed}
use Rattle.elf_model.specs.declared.records.ProgramHeader.{ProgramHeader}
use Rattle.elf_model.proofs.Addresses.{maps-true}
use Rattle.elf_model.proofs.Listed.{All-from_contains, Contains-here}
use Rattle.elf_model.proofs.Places.{AreOwnPlaced, are_own_placed, own_ascending}
use Rattle.own_link.proofs.Bytes as bytes
use Rattle.own_link.proofs.Bytes.{byte_cases, covers-true, one_segment}
use Rattle.own_link.proofs.Ends.{EndsFile, FileEndsBelow, file_end-holds, file_end-reached}
use Rattle.own_link.proofs.ImageOwn.{good_segments, placed_in_parts}
use Rattle.own_link.proofs.SegmentHeaders.{AreOwnSegments, IsGoodSegment}
use Rattle.own_link.proofs.SegmentPieces.{ArePlacedIn, IsInPart, segment_of_piece}
use Rattle.own_link.proofs.Segments.{AreGoodParts, own_parts, own_segments_are, part_header, segments_of}
use Rattle.own_link.proofs.SegmentsOwn.{own_parts_good}
use Rattle.own_link.proofs.ZeroFilled.{own_wants_zero}
use Rattle.image_write.specs.Parts.{EndsLow, Rise, body_from, code_part, fill_byte, is_written}
use Rattle.image_write.proofs.BodyBytes.{BeginsAbove, EndsAt, FillsFrom, Wants, body_is, rise_of}
use Rattle.image_write.proofs.Fills.{own_fill_is}

module _ (base : ℕ) (objects : List LoadedObject) (based : IsBase base) (good : AreObjects objects) (kinds : AreLawfulKinds objects) (fits : IsNotTooLarge base objects) where
  stand : AreOwnPlaced base objects
  stand = are_own_placed base objects kinds

  parts : AreGoodParts base (own_headers_size objects) (own_parts base objects)
  parts = own_parts_good base objects kinds based fits stand

  segments : AreOwnSegments base (own_headers_size objects) (own_segments base objects)
  segments = good_segments base objects kinds based fits stand good

  in_parts : ArePlacedIn (own_parts base objects) (own_loaded base objects) (own_loaded base objects)
  in_parts = placed_in_parts base objects kinds based fits stand good

  in_segment : (q : Placed) → Contains (own_loaded base objects) q → 0 < q.piece.size → IsInPart base (own_headers_size objects) (own_parts base objects) q
  in_segment = segment_of_piece base (own_headers_size objects) (own_parts base objects) parts (own_loaded base objects) (own_loaded base objects) in_parts

  -- the header of the segment of a place is one of the own segments
  own_segment : (h : ProgramHeader) → Contains (segments_of base (own_parts base objects)) h → Contains (own_segments base objects) h
  own_segment h c = subst (λ (hs : List ProgramHeader). Contains hs h) (sym (own_segments_are base objects)) c

  good_at : (h : ProgramHeader) → Contains (own_segments base objects) h → IsGoodSegment base h
  good_at h c = All-contains (IsGoodSegment base) (own_segments base objects) h segments.each c

  -- the file part of a segment ends low, and at or below the file's end
  pub ends_low : All EndsLow (own_segments base objects)
  ends_low =
      All-from_contains EndsLow (own_segments base objects) (λ h c.
      let g = good_at h c in
      let f = g.file_in_memory in
      let e = g.end in
      let o = g.offset in
      record { address = omega (arith, f, e); offset = omega (arith, f, e, o) })

  in_file : (h : ProgramHeader) → Contains (own_segments base objects) h → 0 < h.p_filesz → h.p_vaddr + h.p_filesz ≤ base + file_end (own_segments base objects)
  in_file h c some =
      let o = (good_at h c).offset in
      let e = All-contains (FileEndsBelow (file_end (own_segments base objects))) (own_segments base objects) h
      (file_end-holds (own_segments base objects) (file_end (own_segments base objects)) (omega arith)) c some in
      omega (arith, o, e)

  some_headers : 0 < own_headers_size objects
  some_headers = omega arith

  pub headers_in_file : base + own_headers_size objects ≤ base + file_end (own_segments base objects)
  headers_in_file =
      let h = segments.first in
      let c : Contains (own_segments base objects) h =
      subst (λ (hs : List ProgramHeader). Contains hs h) (sym segments.segments_are) (Contains-here segments.others h) in
      let a = segments.first_address in
      let s = segments.first_holds in
      let e = in_file h c (omega (arith, s, some_headers)) in
      omega (arith, a, s, e)

  pub file_low : base + file_end (own_segments base objects) ≤ 2 ^ 46
  file_low = by (file_end-reached (own_segments base objects))
    where
      by :
          ((file_end (own_segments base objects) ≡ 0) ⊎ Any (EndsFile (file_end (own_segments base objects))) (own_segments base objects)) →
          base + file_end (own_segments base objects) ≤ 2 ^ 46
      by (inl none) = let h = fits.headers in omega (arith, none, h)
      by (inr a) =
          let g = good_at a.1 (a.0, a.2, a.3) in
          let f = g.file_in_memory in
          let e = g.end in
          let o = g.offset in
          let n = a.4.1 in
          omega (arith, f, e, o, n)

  -- the places that have bytes follow each other behind the headers, up to the end of the file
  nonempty : (q : Placed) → is_written q ≡ true → 0 < q.piece.size
  nonempty q w = ltb-true 0 q.piece.size (and_parts (placed_has_bytes q) (is_nonempty q.piece) w).1

  pub own_rise : Rise (base + own_headers_size objects) (base + file_end (own_segments base objects)) (own_loaded base objects)
  own_rise =
      rise_of (base + own_headers_size objects) (base + file_end (own_segments base objects)) (own_loaded base objects) headers_in_file
      (All-from_contains (BeginsAbove (base + own_headers_size objects)) (own_loaded base objects) (λ q c w. (in_segment q c (nonempty q w)).behind))
      (own_ascending base objects)
      (All-from_contains (EndsAt (base + file_end (own_segments base objects))) (own_loaded base objects) (λ q c w.
      let some = nonempty q w in
      let i = in_segment q c some in
      let e = i.file (and_parts (placed_has_bytes q) (is_nonempty q.piece) w).0 in
      let l = i.low in
      let n = in_file (part_header base i.part) (own_segment (part_header base i.part) i.segment) (omega (arith, l, e, some)) in
      omega (arith, n, e)))

  -- a place without bytes in the file stands outside of the code
  abbrev wants : Placed → ℕ → ℕ
  wants q k = piece_byte objects (own_where base objects) q.piece k

  code_has_bytes :
      (q : Placed) → Contains (own_loaded base objects) q → (a : ℕ) → q.at ≤ a → a < placed_end q → (h : ProgramHeader) →
      Contains (own_segments base objects) h → is_code_part a h ≡ true → placed_has_bytes q ≡ true
  code_has_bytes q c a low high h there is =
      let p = and_parts (h.p_flags == 5) (nat_le h.p_vaddr a && nat_lt a (h.p_vaddr + h.p_filesz)) is in
      let r = and_parts (nat_le h.p_vaddr a) (nat_lt a (h.p_vaddr + h.p_filesz)) p.1 in
      let hl = leb-true h.p_vaddr a r.0 in
      let hh = ltb-true a (h.p_vaddr + h.p_filesz) r.1 in
      let f = (good_at h there).file_in_memory in
      let i = in_segment q c (omega (arith, low, high)) in
      let il = i.low in
      let ih = i.high in
      let g : ProgramHeader = part_header base i.part in
      let same : g ≡ h =
      one_segment base (own_headers_size objects) (own_segments base objects) segments a g h (own_segment g i.segment) there
      (maps-true g a (omega (arith, il, low)) (omega (arith, ih, high))) (maps-true h a hl (omega (arith, hh, f))) in
      let five : i.part.rights ≡ 5 = ap (λ (x : ProgramHeader). x.p_flags) same ∙ eqb-true h.p_flags 5 p.0 in
      All-contains (λ (r : Placed). placed_has_bytes r ≡ true) i.part.placed q (i.good.code five) i.holds

  no_fill : (q : Placed) → Contains (own_loaded base objects) q → placed_has_bytes q ≡ false → (a : ℕ) → q.at ≤ a → a < placed_end q → fill_at (own_segments base objects) a ≡ 0
  no_fill q c bare a low high =
      let none = list_any_none (is_code_part a) (own_segments base objects)
      (All-from_contains (λ (h : ProgramHeader). is_code_part a h ≡ false) (own_segments base objects) (λ h there.
      false_from_ne_true (is_code_part a h) (λ is. true≢false (sym (code_has_bytes q c a low high h there is) ∙ bare)))) in
      rw none refl

  -- the own byte of an address in a place with bytes is the wanted one, elsewhere it is the fill
  own_wants : All (Wants objects (own_where base objects) (code_part (own_segments base objects)) 0 (own_byte base objects)) (own_loaded base objects)
  own_wants =
      All-from_contains (Wants objects (own_where base objects) (code_part (own_segments base objects)) 0 (own_byte base objects)) (own_loaded base objects)
      (λ q c w k within. bytes.piece_byte wants (own_segments base objects) (own_loaded base objects) stand.apart q k c within)

  abbrev IsFill : ℕ → ℕ → Type 0
  IsFill a n = n ≡ fill_byte (code_part (own_segments base objects)) a

  fill_by :
      (a : ℕ) → All (λ q. is_written q ≡ true → covers_address a q ≡ false) (own_loaded base objects) →
      (q : Placed) → Contains (own_loaded base objects) q → q.at ≤ a → a < placed_end q → IsFill a (wants q (a - q.at))
  fill_by a bare q c low high = by (cases_Bool (placed_has_bytes q))
    where
      by : ((placed_has_bytes q ≡ true) ⊎ (placed_has_bytes q ≡ false)) → IsFill a (wants q (a - q.at))
      by (inr none) =
          own_wants_zero objects good base stand (own_where base objects) q (a - q.at)
          (Contains-append_left (own_loaded base objects) (own_thread_rest base objects) q c) none
          ∙ (sym (no_fill q c none a low high) ∙ own_fill_is base objects a)
      by (inl some) =
          let w : is_written q ≡ true = and_from (placed_has_bytes q) (is_nonempty q.piece) some (lt-ltb 0 q.piece.size (omega (arith, low, high))) in
          let e = All-contains (λ (p : Placed). is_written p ≡ true → covers_address a p ≡ false) (own_loaded base objects) q bare c w in
          absurd (true≢false (sym (covers-true a q low high) ∙ e))

  pub own_fills : (x : ℕ) → FillsFrom objects (own_where base objects) (code_part (own_segments base objects)) 0 (own_byte base objects) x (own_loaded base objects)
  own_fills x a from bare =
      byte_cases wants (own_segments base objects) (own_loaded base objects) (IsFill a) a (fill_by a bare) (own_fill_is base objects a)

  pub own_body_is :
      body_from objects (own_where base objects) (code_part (own_segments base objects)) (base + file_end (own_segments base objects))
      (base + own_headers_size objects) (own_loaded base objects)
      ≡ map (own_byte base objects)
      (range_with_len (base + own_headers_size objects) ((base + file_end (own_segments base objects)) - (base + own_headers_size objects)))
  own_body_is =
      body_is objects (own_where base objects) (code_part (own_segments base objects)) (base + file_end (own_segments base objects))
      (own_byte base objects) (base + own_headers_size objects) (own_loaded base objects) own_rise own_wants
      (own_fills (base + own_headers_size objects))
