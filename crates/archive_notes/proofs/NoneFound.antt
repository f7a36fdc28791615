-- A loop that finds none: what is so of no element before one is so of none before the next, and at the end of none at all.
use Rattle.std.proofs.Common.{◌≡◌, ℕ, ◌+◌, ◌<◌, ◌≤◌, ◌⊎◌, inl, inr, List, get_or, length, Option, Some, None, subst, arith}
use Rattle.std.specs.Prelude.{IsSomeAnd}
use Rattle.std.specs.List.{slice_get}
use Rattle.std.proofs.lemmas.Bool.{cases_eq}
use Rattle.std.proofs.lemmas.Option.{slice_get_cases}

pub none_more : (P : ℕ → Type 0) (j : ℕ) → ((k : ℕ) → k < j → ¬ P k) → ¬ P j → (k : ℕ) → k < j + 1 → ¬ P k
none_more P j none here k less = by (cases_eq k j)
  where
    by : (k ≡ j) ⊎ (k ≡ j → ⊥) → ¬ P k
    by (inl at) = λ p. here (subst P at p)
    by (inr other) = none k (omega (arith, less, other))

pub none_at_all :
    {X : Type 0} (xs : List X) (P : X → Type 0) (j : ℕ) → ((k : ℕ) → k < j → ¬ IsSomeAnd (slice_get xs k) P) → length xs ≤ j →
    (k : ℕ) → ¬ IsSomeAnd (slice_get xs k) P
none_at_all {X} xs P j none all k = by (slice_get_cases xs k).1
  where
    by : ((x : X) × (k < length xs) × (slice_get xs k ≡ Some x) × (get_or xs k x ≡ x)) ⊎ ((length xs ≤ k) × (slice_get xs k ≡ None)) → ¬ IsSomeAnd (slice_get xs k) P
    by (inl there) = none k (omega (arith, there.1, all))
    by (inr past) = λ p. subst (λ (o : Option X). IsSomeAnd o P) past.1 p
