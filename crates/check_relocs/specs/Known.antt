-- What is known of things that have numbers, in a list that has what is known at their numbers.
use Rattle.std.specs.Prelude.{ℕ, List, Option, None, IfSome, slice_index_or}

-- what is known of the one that has a number
abbrev pub known_at : {X : Type 0} → List (Option X) → ℕ → Option X
known_at ks j = slice_index_or ks j None

-- a fact holds of whatever is known
abbrev pub AreKnown : {X : Type 0} → (ℕ → X → Type 0) → List (Option X) → Type 0
AreKnown fact ks = (j : ℕ) → IfSome (known_at ks j) (fact j)
