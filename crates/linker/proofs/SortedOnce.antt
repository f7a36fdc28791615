-- Each list has an order in which the keys of its elements ascend.
use Rattle.std.proofs.Common.{◌≡◌, ℕ, zero, suc, ◌+◌, ◌<◌, Bool, true, false, cond, List, [], ◌∷◌, length, get_or, refl, subst, arith}
use Rattle.std.specs.Prelude.{IsPermutation}
use Rattle.std.proofs.lemmas.List.Sorted.{IsPermutation-cons, IsPermutation-refl, IsPermutation-swap, IsPermutation-trans}

module _ {X : Type 0} (lt : X → X → Bool) (asymmetric : (x y : X) → lt x y ≡ true → lt y x ≡ false) where
  -- an element among those that aren't less, behind those that are
  abbrev put : X → List X → List X
  put y [] = y ∷ []
  put y (z ∷ zs) = cond (lt z y) (z ∷ put y zs) (y ∷ z ∷ zs)

  abbrev pub sorted : List X → List X
  sorted [] = []
  sorted (x ∷ xs) = put x (sorted xs)

  -- no element is less than the one before it
  abbrev IsBeforeHead : X → List X → Type 0
  IsBeforeHead x [] = Unit {0}
  IsBeforeHead x (y ∷ ys) = lt y x ≡ false

  abbrev Rises : List X → Type 0
  Rises [] = Unit {0}
  Rises (x ∷ xs) = IsBeforeHead x xs × Rises xs

  before_put : (y z : X) (zs : List X) → lt z y ≡ true → IsBeforeHead z zs → IsBeforeHead z (put y zs)
  before_put y z [] less first = asymmetric z y less
  before_put y z (w ∷ ws) less first = by (lt w y)
    where
      by : (b : Bool) → IsBeforeHead z (cond b (w ∷ put y ws) (y ∷ w ∷ ws))
      by true = first
      by false = asymmetric z y less

  put_rises : (y : X) (zs : List X) → Rises zs → Rises (put y zs)
  put_rises y [] rises = (tt, tt)
  put_rises y (z ∷ zs) rises = by (lt z y) refl (put_rises y zs rises.1)
    where
      by : (b : Bool) → lt z y ≡ b → Rises (put y zs) → Rises (cond b (z ∷ put y zs) (y ∷ z ∷ zs))
      by true less rest = (before_put y z zs less rises.0, rest)
      by false not_less rest = (not_less, rises)

  sorted_rises : (xs : List X) → Rises (sorted xs)
  sorted_rises [] = tt
  sorted_rises (x ∷ xs) = put_rises x (sorted xs) (sorted_rises xs)

  put_moves : (y : X) (zs : List X) → IsPermutation (y ∷ zs) (put y zs)
  put_moves y [] = IsPermutation-refl (y ∷ [])
  put_moves y (z ∷ zs) = by (lt z y) (put_moves y zs)
    where
      by : (b : Bool) → IsPermutation (y ∷ zs) (put y zs) → IsPermutation (y ∷ z ∷ zs) (cond b (z ∷ put y zs) (y ∷ z ∷ zs))
      by true rest =
          IsPermutation-trans (y ∷ z ∷ zs) (z ∷ y ∷ zs) (z ∷ put y zs)
          (IsPermutation-swap (y ∷ z ∷ zs) (z ∷ y ∷ zs) 0 1 (omega arith) (omega arith) refl)
          (IsPermutation-cons z (y ∷ zs) (put y zs) rest)
      by false rest = IsPermutation-refl (y ∷ z ∷ zs)

  pub sorted_moved : (xs : List X) → IsPermutation xs (sorted xs)
  sorted_moved [] = IsPermutation-refl []
  sorted_moved (x ∷ xs) =
      IsPermutation-trans (x ∷ xs) (x ∷ sorted xs) (put x (sorted xs)) (IsPermutation-cons x xs (sorted xs) (sorted_moved xs))
      (put_moves x (sorted xs))

  neighbours : (xs : List X) → Rises xs → (k : ℕ) (d : X) → k + 1 < length xs → lt (get_or xs (suc k) d) (get_or xs k d) ≡ false
  neighbours [] rises k d within = absurd (omega (arith, within))
  neighbours (x ∷ []) rises k d within = absurd (omega (arith, within))
  neighbours (x ∷ y ∷ ys) rises zero d within = rises.0
  neighbours (x ∷ y ∷ ys) rises (suc k) d within = neighbours (y ∷ ys) rises.1 k d (omega (arith, within))

  pub sorted_by : (xs : List X) (k : ℕ) (d : X) → k + 1 < length (sorted xs) → lt (get_or (sorted xs) (k + 1) d) (get_or (sorted xs) k d) ≡ false
  sorted_by xs k d within =
      let next : suc k ≡ k + 1 = omega arith in
      subst (λ (j : ℕ). lt (get_or (sorted xs) j d) (get_or (sorted xs) k d) ≡ false) next (neighbours (sorted xs) (sorted_rises xs) k d within)
