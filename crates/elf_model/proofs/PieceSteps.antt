-- The kept sections of an object as they are listed one after the other, by a view of what is listed.
use Rattle.std.proofs.Common.{◌≡◌, ℕ, ◌+◌, ◌<◌, Bool, true, false, cond, List, [], ◌∷◌, ◌++◌, length, get_or, drop, map, sym, ap, ◌∙◌}
use Rattle.std.proofs.lemmas.List.{append_assoc, at_drop_more, map-append}
use Rattle.elf_model.specs.Link.Loading.{LoadedObject}
use Rattle.elf_model.specs.Link.Pieces.{Piece, is_kept, piece_of, pieces_from}
use Rattle.elf_model.specs.declared.records.SectionHeader.{SectionHeader}

cond_at : {X : Type 0} (b t : Bool) (x y : X) → b ≡ t → cond b x y ≡ cond t x y
cond_at b t x y e = ap (λ (s : Bool). cond s x y) e

module _ {X : Type 0} (view : X → Piece) (out next : List X) (number : ℕ) (o : LoadedObject) (hs : List SectionHeader) (i : ℕ) (d : SectionHeader) (whole : List Piece) (within : i < length hs) where
  abbrev h : SectionHeader
  h = get_or hs i d

  abbrev rest : List Piece
  rest = pieces_from number o (i + 1) (drop (i + 1) hs)

  front_is : (b : Bool) → is_kept o i h ≡ b → pieces_from number o i (drop i hs) ≡ cond b (piece_of number o.bytes i h ∷ rest) rest
  front_is b kept = at_drop_more (pieces_from number o i) hs i d within ∙ cond_at (is_kept o i h) b (piece_of number o.bytes i h ∷ rest) rest kept

  -- section i is kept, and its piece is put behind the others
  pub piece_more :
      (p : X) → is_kept o i h ≡ true → view p ≡ piece_of number o.bytes i h → next ≡ out ++ p ∷ [] →
      map view out ++ pieces_from number o i (drop i hs) ≡ whole → map view next ++ rest ≡ whole
  piece_more p kept is grown so_far =
      let views : map view next ≡ map view out ++ view p ∷ [] = ap (map view) grown ∙ map-append view out (p ∷ []) in
      ap (λ vs. vs ++ rest) views
      ∙ (append_assoc (map view out) (view p ∷ []) rest
      ∙ (ap (λ (v : Piece). map view out ++ v ∷ rest) is
      ∙ (ap (λ vs. map view out ++ vs) (sym (front_is true kept)) ∙ so_far)))

  -- section i is not kept
  pub piece_same :
      is_kept o i h ≡ false → next ≡ out →
      map view out ++ pieces_from number o i (drop i hs) ≡ whole → map view next ++ rest ≡ whole
  piece_same left same so_far =
      ap (λ ps. map view ps ++ rest) same ∙ (ap (λ vs. map view out ++ vs) (sym (front_is false left)) ∙ so_far)
