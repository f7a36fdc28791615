-- The GOT as a piece, by its size.
use Rattle.std.proofs.Common.{◌≡◌, ◌∙◌, ℕ, Bool, arith, true, false, cond, List, [], ◌∷◌, ap, length, refl}
use Rattle.std.specs.Prelude.{nat_lt}
use Rattle.std.proofs.lemmas.Bool.{lt-ltb}
use Rattle.elf_model.specs.Link.Loading.{LoadedObject}
use Rattle.elf_model.specs.Own.OwnLayout.{got_number, got_piece, got_pieces}
use Rattle.elf_model.specs.Link.Slots.{got_size, has_got, size_with, slots}
use Rattle.layout.specs.PieceLists.{got_as, if_sized}

-- there is a GOT where it has a size
sized : (objects : List LoadedObject) → nat_lt 0 (got_size objects) ≡ has_got objects
sized objects = by (has_got objects) (length (slots objects))
  where
    by : (b : Bool) (n : ℕ) → nat_lt 0 (cond b (size_with n) 0) ≡ b
    by true n = lt-ltb 0 (size_with n) (omega arith)
    by false n = refl

pub got_listed : (objects : List LoadedObject) (size : ℕ) → size ≡ got_size objects → if_sized (got_as (got_number objects) size) ≡ got_pieces objects
got_listed objects size is =
    ap (λ (n : ℕ). if_sized (got_as (got_number objects) n)) is ∙ ap (λ b. cond b (got_piece objects ∷ []) []) (sized objects)
