-- The own layout has each piece once, in load order, and a GOT just where one is asked for.
use Rattle.std.proofs.Common.{◌≡◌, ℕ, Bool, true, false, cond, List, [], ◌∷◌, None, Some, map, refl, ap}
use Rattle.std.specs.Prelude.{is_some}
use Rattle.elf_model.specs.Link.Commons.{pieces}
use Rattle.elf_model.specs.Link.Loading.{LoadedObject}
use Rattle.elf_model.specs.Own.OwnLayout.{got_line_of, own_got, own_in_load_order, own_places}
use Rattle.elf_model.specs.Link.Pieces.{Piece}
use Rattle.elf_model.specs.Link.Slots.{has_got}

placed_again : (base : ℕ) (objects : List LoadedObject) (ps : List Piece) → map (λ q. q.piece) (own_places base objects ps) ≡ ps
placed_again base objects [] = refl
placed_again base objects (p ∷ ps) = ap (λ (qs : List Piece). p ∷ qs) (placed_again base objects ps)

pub own_pieces : (base : ℕ) (objects : List LoadedObject) → map (λ q. q.piece) (own_in_load_order base objects) ≡ pieces objects
own_pieces base objects = placed_again base objects (pieces objects)

pub own_has_got : (base : ℕ) (objects : List LoadedObject) → is_some (own_got base objects) ≡ has_got objects
own_has_got base objects = by (has_got objects)
  where
    by : (b : Bool) → is_some (cond b (Some (got_line_of base objects)) None) ≡ b
    by true = refl
    by false = refl
