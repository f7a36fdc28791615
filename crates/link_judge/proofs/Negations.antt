-- What isn't so.
use Rattle.std.proofs.Common.{◌≡◌, Bool, true, false, not, refl}
use Rattle.std.proofs.lemmas.Bool.{false≢true}

pub not_to : (b : Bool) → not b ≡ true → b ≡ true → ⊥
not_to true n t = false≢true n
not_to false n t = false≢true t

pub not_from : (b : Bool) → (b ≡ true → ⊥) → not b ≡ true
not_from true never = absurd (never refl)
not_from false never = refl
