-- The pieces that have bytes in the file have all bytes of their sections, and the GOT has its own.
use Rattle.std.proofs.Common.{◌≡◌, ◌==◌, ℕ, ◌+◌, ◌<◌, ◌≤◌, ◌⊎◌, inl, inr, true, false, List, [], ◌∷◌, length, drop, refl, sym, ◌∙◌, ap, subst, arith}
use Rattle.std.specs.Prelude.{All, Contains, Option, Some, unwrap_or}
use Rattle.std.specs.List.{slice_get}
use Rattle.std.specs.Option.{option_and_then}
use Rattle.std.proofs.lemmas.Bool.{and_parts, eq-eqb, eqb-true, false_from_ne_true, not-true, or_cases, true≢false}
use Rattle.std.proofs.lemmas.List.{length-drop, length-take-le}
use Rattle.std.proofs.lemmas.List.Elements.{All-cons, All-contains, All-nil, Contains-append_cases}
use Rattle.std.proofs.lemmas.Option.{get_or_from_slice_get, slice_get_within}
use Rattle.byteview.specs.Numbers.{part}
use Rattle.elf_model.specs.Own.ImageFile.{is_got_piece}
use Rattle.elf_model.specs.Link.Loading.{AreObjects, LoadedObject}
use Rattle.elf_model.specs.Inputs.ObjectFile.{IsObject, IsPlaced, LiesInside, bytes_in_file, contents, has_no_bytes, section, section_bytes, sections}
use Rattle.elf_model.specs.Own.OwnLayout.{got_number, got_pieces, is_nonempty, laid_out, own_loaded, own_placed, own_thread_rest, own_where, placed_has_bytes}
use Rattle.elf_model.specs.Link.Commons.{block_of, block_pieces, pieces}
use Rattle.elf_model.specs.Link.Pieces.{AreLawfulKinds, IsLawfulKind, Piece, has_bytes, is_nobits, kept_sections, piece_of}
use Rattle.elf_model.specs.Link.Placement.{Placed}
use Rattle.elf_model.specs.Link.Resolution.{sections_of_object}
use Rattle.elf_model.specs.Link.Slots.{got_bytes}
use Rattle.elf_model.specs.declared.records.SectionHeader.{SectionHeader}
use Rattle.elf_model.proofs.Blocks.{block_bare, block_pieces-each}
use Rattle.elf_model.proofs.Listed.{All-from_contains, All-parts, Contains-from_map}
use Rattle.elf_model.proofs.Places.{AreOwnPlaced, at_own_address}
use Rattle.elf_model.proofs.OwnOrder.{laid_out_lawful}
use Rattle.elf_model.proofs.PieceNumbers.{got_pieces-each, pieces_low}
use Rattle.elf_model.proofs.Sectioned.{kept-each}
use Rattle.own_link.proofs.ZeroFilled.{piece_headers}
use Rattle.layout.proofs.OwnThreads.{kept_where}
use Rattle.image_write.specs.Parts.{AreFull, IsFull, IsWhole, is_written}
use Rattle.image_write.proofs.GotBytes.{got_sized}

-- a part that lies inside has its length
part_length : (bytes : List ℕ) (at n : ℕ) → at + n ≤ length bytes → length (part bytes at n) ≡ n
part_length bytes at n inside =
    let d = length-drop at bytes in
    length-take-le n (drop at bytes) (omega (arith, d, inside))

-- a kept section of a lawful kind that isn't NOBITS has bytes
abbrev IsSome : ℕ → Type 0
IsSome n = 0 < n

abbrev kind_numbers : List ℕ
kind_numbers = 1 ∷ 7 ∷ 8 ∷ 14 ∷ 15 ∷ 16 ∷ 0x70000001 ∷ []

kinds_some : All IsSome kind_numbers
kinds_some =
    All-cons IsSome 1 (7 ∷ 8 ∷ 14 ∷ 15 ∷ 16 ∷ 0x70000001 ∷ []) (omega arith)
    (All-cons IsSome 7 (8 ∷ 14 ∷ 15 ∷ 16 ∷ 0x70000001 ∷ []) (omega arith)
    (All-cons IsSome 8 (14 ∷ 15 ∷ 16 ∷ 0x70000001 ∷ []) (omega arith)
    (All-cons IsSome 14 (15 ∷ 16 ∷ 0x70000001 ∷ []) (omega arith)
    (All-cons IsSome 15 (16 ∷ 0x70000001 ∷ []) (omega arith)
    (All-cons IsSome 16 (0x70000001 ∷ []) (omega arith)
    (All-cons IsSome 0x70000001 [] (omega arith)
    (All-nil IsSome)))))))

has_some : (h : SectionHeader) → IsLawfulKind h → is_nobits h ≡ false → has_no_bytes h ≡ false
has_some h lawful some =
    false_from_ne_true (has_no_bytes h) (λ t. by (or_cases (h.sh_type == 0) (h.sh_type == 8) t))
  where
    null : h.sh_type ≡ 0 → ⊥
    null e =
        let some : 0 < h.sh_type = All-contains IsSome kind_numbers h.sh_type kinds_some lawful.type_ in
        omega (arith, e, some)

    by : ((h.sh_type == 0) ≡ true) ⊎ ((h.sh_type == 8) ≡ true) → ⊥
    by (inl n) = null (eqb-true h.sh_type 0 n)
    by (inr b) = true≢false (sym b ∙ some)

file_bytes : (bytes : List ℕ) (h : SectionHeader) → has_no_bytes h ≡ false → unwrap_or (bytes_in_file bytes h) [] ≡ contents bytes h
file_bytes bytes h e = rw e refl

inside_by : (len : ℕ) (h : SectionHeader) → IsPlaced len h → has_no_bytes h ≡ false → LiesInside len h
inside_by len h placed some = by placed.range
  where
    none : has_no_bytes h ≡ true → LiesInside len h
    none t = absurd (true≢false (sym t ∙ some))

    by : ((h.sh_type ≡ 0) ⊎ ((h.sh_type ≡ 8) ⊎ LiesInside len h)) → LiesInside len h
    by (inl n) = none (rw n refl)
    by (inr (inl n)) = none (rw n refl)
    by (inr (inr i)) = i

-- a piece of a lawful kind
abbrev HasAllBytes : Piece → Type 0
HasAllBytes p = IsLawfulKind p.header → is_nobits p.header ≡ false → length p.bytes ≡ p.size

section_whole :
    (k : ℕ) (bytes : List ℕ) → IsObject bytes → (i : ℕ) (h : SectionHeader) → slice_get (sections bytes) i ≡ Some h →
    HasAllBytes (piece_of k bytes i h)
section_whole k bytes good i h there lawful some =
    let none = has_some h lawful some in
    let placed : IsPlaced (length bytes) h =
    All-contains (IsPlaced (length bytes)) (sections bytes) h good.ranges
    (i, slice_get_within (sections bytes) i h there, get_or_from_slice_get (sections bytes) i h h there) in
    let is : unwrap_or (section_bytes bytes i) [] ≡ contents bytes h =
    ap (λ (o : Option SectionHeader). unwrap_or (option_and_then (bytes_in_file bytes) o) []) there ∙ file_bytes bytes h none in
    ap (λ (xs : List ℕ). length xs) is ∙ part_length bytes h.sh_offset h.sh_size (inside_by (length bytes) h placed none)

all_bytes : (objects : List LoadedObject) → AreObjects objects → All HasAllBytes (kept_sections objects)
all_bytes objects good =
    kept-each HasAllBytes objects (λ k o there i h within.
    section_whole k o.bytes
    (All-contains (λ (x : LoadedObject). IsObject x.bytes) objects o good
    (k, slice_get_within objects k o there, get_or_from_slice_get objects k o o there)) i h within)

abbrev HasItsSize : Piece → Type 0
HasItsSize p = p.size ≡ p.header.sh_size

own_sizes : (objects : List LoadedObject) → All HasItsSize (kept_sections objects)
own_sizes objects = kept-each HasItsSize objects (λ k o there i h within. refl)

-- of the own places
placed_piece : (base : ℕ) (objects : List LoadedObject) → AreOwnPlaced base objects → (q : Placed) → Contains (own_placed base objects) q → Contains (laid_out objects) q.piece
placed_piece base objects stand q c =
    let i = Contains-from_map (at_own_address base objects) (laid_out objects) q (stand.all q c) in
    subst (λ (r : Placed). Contains (laid_out objects) r.piece) i.is i.there

placed_lawful : (base : ℕ) (objects : List LoadedObject) → AreLawfulKinds objects → AreOwnPlaced base objects → (q : Placed) → Contains (own_placed base objects) q → IsLawfulKind q.piece.header
placed_lawful base objects kinds stand q c =
    All-contains (λ (p : Piece). IsLawfulKind p.header) (laid_out objects) q.piece (laid_out_lawful objects kinds) (placed_piece base objects stand q c)

-- what is laid out and isn't the GOT is a piece, and the GOT isn't one
not_got : (objects : List LoadedObject) (p : Piece) → Contains (laid_out objects) p → is_got_piece objects p ≡ false → Contains (pieces objects) p
not_got objects p c other = by (Contains-append_cases (pieces objects) (got_pieces objects) p c)
  where
    by : Contains (pieces objects) p ⊎ Contains (got_pieces objects) p → Contains (pieces objects) p
    by (inl piece) = piece
    by (inr got) =
        let number = All-contains (λ (x : Piece). x.object ≡ got_number objects) (got_pieces objects) p
        (got_pieces-each objects (λ (x : Piece). x.object ≡ got_number objects) refl) got in
        absurd (true≢false (sym (eq-eqb p.object (got_number objects) number) ∙ other))

the_got : (objects : List LoadedObject) (p : Piece) → Contains (laid_out objects) p → is_got_piece objects p ≡ true → Contains (got_pieces objects) p
the_got objects p c is = by (Contains-append_cases (pieces objects) (got_pieces objects) p c)
  where
    by : Contains (pieces objects) p ⊎ Contains (got_pieces objects) p → Contains (got_pieces objects) p
    by (inl piece) =
        let low = All-contains (λ (x : Piece). x.object ≤ length objects) (pieces objects) p (pieces_low objects) piece in
        let number = eqb-true p.object (got_number objects) is in
        absurd (omega (arith, low, number))
    by (inr got) = got

-- a piece that has bytes in the file is a kept section
kept_piece : (objects : List LoadedObject) (p : Piece) → Contains (pieces objects) p → has_bytes p ≡ true → Contains (kept_sections objects) p
kept_piece objects p c some =
    kept_where has_bytes objects p c
    (block_pieces-each objects (λ (x : Piece). has_bytes x ≡ false) (λ k s there. block_bare (block_of objects k s))) some

module _ (base : ℕ) (objects : List LoadedObject) (good : AreObjects objects) (kinds : AreLawfulKinds objects) (stand : AreOwnPlaced base objects) where
  section_full : (q : Placed) → Contains (own_placed base objects) q → is_written q ≡ true → is_got_piece objects q.piece ≡ false → IsWhole objects q.piece
  section_full q c w other =
      let lawful = placed_lawful base objects kinds stand q c in
      let w' = and_parts (placed_has_bytes q) (is_nonempty q.piece) w in
      let there = kept_piece objects q.piece (not_got objects q.piece (placed_piece base objects stand q c) other) w'.0 in
      let b = All-contains HasAllBytes (kept_sections objects) q.piece (all_bytes objects good) there lawful (not-true (is_nobits q.piece.header) w'.0) in
      let h : section (sections_of_object (slice_get objects q.piece.object)) q.piece.section ≡ q.piece.header =
      All-contains (λ (p : Piece). section (sections_of_object (slice_get objects p.object)) p.section ≡ p.header) (kept_sections objects) q.piece
      (piece_headers objects) there in
      let n = All-contains HasItsSize (kept_sections objects) q.piece (own_sizes objects) there in
      record { bytes = b; section_size = ap (λ (x : SectionHeader). x.sh_size) h ∙ sym n }

  placed_full : AreFull objects (own_where base objects) (own_placed base objects)
  placed_full =
      All-from_contains (λ (q : Placed). is_written q ≡ true → IsFull objects (own_where base objects) q.piece) (own_placed base objects)
      (λ q c w. record {
        section = section_full q c w;
        got = λ is.
            All-contains (λ (p : Piece). length (got_bytes objects (own_where base objects)) ≡ p.size) (got_pieces objects) q.piece (got_sized base objects)
            (the_got objects q.piece (placed_piece base objects stand q c) is);
      })

  pub own_full : AreFull objects (own_where base objects) (own_loaded base objects)
  own_full =
      (All-parts (λ (q : Placed). is_written q ≡ true → IsFull objects (own_where base objects) q.piece) (own_loaded base objects) (own_thread_rest base objects)
      placed_full).0
