-- What comes by a rising key comes so also where it isn't neighbours.
use Rattle.std.proofs.Common.{◌≡◌, ℕ, zero, suc, ◌+◌, ◌<◌, ◌≤◌, ◌⊎◌, inl, inr, List, length, get_or, subst, arith}
use Rattle.std.proofs.lemmas.Bool.{cases_lt}
use Rattle.elf_model.specs.Image.MapText.{Ascends}

module _ {X : Type 0} (Before : X → X → Type 0) (joined : (p q r : X) → Before p q → Before q r → Before p r) where
  pub later_in : (xs : List X) → Ascends Before xs → (i j : ℕ) (d : X) → i < j → j < length xs → Before (get_or xs i d) (get_or xs j d)
  later_in xs up i zero d order within = absurd (omega (arith, order))
  later_in xs up i (suc j) d order within = by (cases_lt i j) (λ before. later_in xs up i j d before (omega (arith, within)))
    where
      next : Before (get_or xs j d) (get_or xs (suc j) d)
      next = let one : j + 1 ≡ suc j = omega arith in subst (λ (k : ℕ). Before (get_or xs j d) (get_or xs k d)) one (up j d (omega (arith, within)))

      by : (i < j) ⊎ (j ≤ i) → (i < j → Before (get_or xs i d) (get_or xs j d)) → Before (get_or xs i d) (get_or xs (suc j) d)
      by (inl before) earlier = joined (get_or xs i d) (get_or xs j d) (get_or xs (suc j) d) (earlier before) next
      by (inr same_place) earlier = let e : j ≡ i = omega (arith, order, same_place) in subst (λ (k : ℕ). Before (get_or xs k d) (get_or xs (suc j) d)) e next
