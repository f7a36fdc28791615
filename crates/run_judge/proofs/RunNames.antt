-- The run name of a section, by the first of the arrays that gathers it.
use Rattle.std.proofs.Common.{◌≡◌, Bool, true, false, List, ◌∷◌, ℕ, Some, cond, ap, sym}
use Rattle.std.specs.Prelude.{find, unwrap_or}

module _ (gathers : List ℕ → Bool) (name a : List ℕ) (as_ : List (List ℕ)) where
  pub picked : gathers a ≡ true → a ≡ unwrap_or (find gathers (a ∷ as_)) name
  picked e = sym (ap (λ (b : Bool). unwrap_or (cond b (Some a) (find gathers as_)) name) e)

  pub passed : gathers a ≡ false → unwrap_or (find gathers as_) name ≡ unwrap_or (find gathers (a ∷ as_)) name
  passed e = sym (ap (λ (b : Bool). unwrap_or (cond b (Some a) (find gathers as_)) name) e)
