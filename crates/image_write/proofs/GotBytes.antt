-- The bytes of the own GOT: a first word, and the values of its slots; and those of another piece.
use Rattle.std.proofs.Common.{◌≡◌, ℕ, ◌+◌, ◌*◌, Bool, true, false, cond, List, [], ◌∷◌, ◌++◌, length, replicate, refl, sym, ◌∙◌, ap, arith}
use Rattle.std.specs.Prelude.{All, map, slice_index}
use Rattle.std.specs.List.{flat_map, range_with_len}
use Rattle.std.proofs.lemmas.List.{ext_get_or, length-append}
use Rattle.std.proofs.lemmas.List.Elements.{All-cons, All-nil}
use Rattle.std.proofs.lemmas.List.FromFn.{get_or-map-range_with_len, length-map-range_with_len}
use Rattle.byteview.specs.Numbers.{le_bytes}
use Rattle.byteview.proofs.NumberLaws.{length-le_bytes}
use Rattle.elf_model.specs.Own.ImageFile.{is_got_piece, piece_byte}
use Rattle.elf_model.specs.Link.Loading.{LoadedObject}
use Rattle.elf_model.specs.Own.OwnLayout.{got_piece, got_pieces, own_address, own_where, slots_from}
use Rattle.elf_model.specs.Link.Pieces.{Piece}
use Rattle.elf_model.specs.Link.Placement.{Where}
use Rattle.elf_model.specs.Link.Slots.{Request, got_bytes, has_got, size_with, slot_bytes, slot_value, slots}
use Rattle.elf_model.specs.Link.WantedBytes.{wanted_byte}
use Rattle.image_write.specs.Parts.{bytes_of, got_of, values_of}
use Rattle.image_write.proofs.Runs.{map_agree}

-- the elements of a list by their numbers are the list
whole : (xs : List ℕ) → map (slice_index xs) (range_with_len 0 (length xs)) ≡ xs
whole xs =
    let n = length-map-range_with_len (slice_index xs) 0 (length xs) in
    ext_get_or 0 (map (slice_index xs) (range_with_len 0 (length xs))) xs n
    (λ i within. get_or-map-range_with_len (slice_index xs) 0 (length xs) i i 0 (omega (arith, within, n)) (omega arith))

-- what is wanted of the GOT as a piece, and of another piece
pub got_wanted : (objects : List LoadedObject) (w : Where) (p : Piece) → is_got_piece objects p ≡ true → length (got_bytes objects w) ≡ p.size → got_bytes objects w ≡ bytes_of objects w p
got_wanted objects w p is size =
    sym
    (map_agree (piece_byte objects w p) (slice_index (got_bytes objects w)) 0 p.size
    (λ k low high. ap (λ (b : Bool). cond b (slice_index (got_bytes objects w) k) (wanted_byte objects w p k)) is)
    ∙ (ap (λ (n : ℕ). map (slice_index (got_bytes objects w)) (range_with_len 0 n)) (sym size) ∙ whole (got_bytes objects w)))

pub section_wanted : (objects : List LoadedObject) (w : Where) (p : Piece) → is_got_piece objects p ≡ false → map (wanted_byte objects w p) (range_with_len 0 p.size) ≡ bytes_of objects w p
section_wanted objects w p other =
    map_agree (wanted_byte objects w p) (piece_byte objects w p) 0 p.size
    (λ k low high. sym (ap (λ (b : Bool). cond b (slice_index (got_bytes objects w) k) (wanted_byte objects w p k)) other))

module _ (objects : List LoadedObject) (w : Where) where
  -- the slots' bytes are their values'
  slots_are : (a : ℕ) (qs : List Request) → flat_map (slot_bytes objects w) (slots_from a qs) ≡ flat_map (le_bytes 8) (values_of objects w qs)
  slots_are a [] = refl
  slots_are a (q ∷ qs) = ap (λ (bs : List ℕ). le_bytes 8 (slot_value objects w q.kind q.target) ++ bs) (slots_are (a + 8) qs)

  slots_length : (a : ℕ) (qs : List Request) → length (flat_map (slot_bytes objects w) (slots_from a qs)) ≡ 8 * length qs
  slots_length a [] = refl
  slots_length a (q ∷ qs) =
      let rest = slots_length (a + 8) qs in
      let n = length-le_bytes 8 (slot_value objects w q.kind q.target) in
      let sum = length-append (le_bytes 8 (slot_value objects w q.kind q.target)) (flat_map (slot_bytes objects w) (slots_from (a + 8) qs)) in
      omega (arith, rest, n, sum)

-- the own GOT's bytes, by the values of its slots
pub own_got_is : (base : ℕ) (objects : List LoadedObject) → got_of (values_of objects (own_where base objects) (slots objects)) ≡ got_bytes objects (own_where base objects)
own_got_is base objects =
    ap (λ (bs : List ℕ). replicate 8 0 ++ bs) (sym (slots_are objects (own_where base objects) (own_address base objects (got_piece objects) + 8) (slots objects)))

-- the own GOT has as many as its size
module _ (base : ℕ) (objects : List LoadedObject) where
  abbrev HasItsLength : Piece → Type 0
  HasItsLength p = length (got_bytes objects (own_where base objects)) ≡ p.size

  got_length : length (got_bytes objects (own_where base objects)) ≡ size_with (length (slots objects))
  got_length =
      let a : ℕ = own_address base objects (got_piece objects) + 8 in
      let n = slots_length objects (own_where base objects) a (slots objects) in
      let sum = length-append (replicate 8 0) (flat_map (slot_bytes objects (own_where base objects)) (slots_from a (slots objects))) in
      omega (arith, n, sum)

  pub got_sized : All HasItsLength (got_pieces objects)
  got_sized = by (has_got objects) refl
    where
      by : (b : Bool) → has_got objects ≡ b → All HasItsLength (cond b (got_piece objects ∷ []) [])
      by true there =
          All-cons HasItsLength (got_piece objects) [] (got_length ∙ sym (ap (λ (b : Bool). cond b (size_with (length (slots objects))) 0) there))
          (All-nil HasItsLength)
      by false none = All-nil HasItsLength
