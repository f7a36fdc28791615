-- What a value modulo a number tells of it.
use Rattle.std.proofs.Common.{◌≡◌, ℕ, Option, None, Some, refl, sym}
use Rattle.std.specs.Prelude.{option_map}
use Rattle.std.proofs.lemmas.Option.{none-some}

pub nothing_of : (f : ℕ → ℕ) (o : Option ℕ) → None ≡ option_map f o → o ≡ None
nothing_of f None e = refl
nothing_of f (Some v) e = absurd (none-some (f v) e)

pub something_of : (f : ℕ → ℕ) (o : Option ℕ) (v : ℕ) → Some v ≡ option_map f o → o ≡ None → ⊥
something_of f None v e none = none-some v (sym e)
something_of f (Some w) v e none = none-some w (sym none)
