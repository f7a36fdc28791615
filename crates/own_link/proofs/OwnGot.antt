-- The own GOT: where there is one it has a first word and its slots, which stand behind it.
use Rattle.std.proofs.Common.{◌≡◌, ℕ, ◌+◌, ◌<◌, Bool, true, cond, List, [], ◌∷◌, length, suc, refl, sym, ap, subst, arith}
use Rattle.std.specs.Prelude.{Contains}
use Rattle.elf_model.specs.Link.Loading.{LoadedObject}
use Rattle.elf_model.specs.Own.OwnLayout.{got_piece, got_pieces, slots_from}
use Rattle.elf_model.specs.Image.RightLink.{StandFrom}
use Rattle.elf_model.specs.Link.Slots.{Request, got_size, has_got, size_with, slots}
use Rattle.elf_model.proofs.Listed.{Contains-here}

pub got_there : (objects : List LoadedObject) → has_got objects ≡ true → Contains (got_pieces objects) (got_piece objects)
got_there objects there =
    subst (λ (b : Bool). Contains (cond b (got_piece objects ∷ []) []) (got_piece objects)) (sym there) (Contains-here [] (got_piece objects))

pub got_size_is : (objects : List LoadedObject) → has_got objects ≡ true → got_size objects ≡ size_with (length (slots objects))
got_size_is objects there = ap (λ (b : Bool). cond b (size_with (length (slots objects))) 0) there

pub got_nonempty : (objects : List LoadedObject) → has_got objects ≡ true → 0 < got_size objects
got_nonempty objects there = let e = got_size_is objects there in omega (arith, e)

pub slots_count : (a : ℕ) (qs : List Request) → length (slots_from a qs) ≡ length qs
slots_count a [] = refl
slots_count a (q ∷ qs) = ap suc (slots_count (a + 8) qs)

pub slots_stand : (a : ℕ) (qs : List Request) → StandFrom a (slots_from a qs)
slots_stand a [] = tt
slots_stand a (q ∷ qs) = (refl, slots_stand (a + 8) qs)
