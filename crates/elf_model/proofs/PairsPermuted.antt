-- A symmetric relation of all pairs of a list holds of all pairs of the list in another order.
use Rattle.std.proofs.Common.{◌≡◌, ℕ, ◌<◌, ◌≤◌, ◌⊎◌, inl, inr, Bool, true, false, List, length, get_or, refl, sym, subst, arith}
use Rattle.std.specs.Prelude.{AllPairs, IsPermutation, swap, ◌==◌, nat_lt}
use Rattle.std.proofs.lemmas.Bool.{eqb-true, eqb-false, ltb-true, ltb-false}
use Rattle.std.proofs.lemmas.List.Edits.{Swapped, length-swap, swapped_from_swap}
use Rattle.std.proofs.lemmas.List.Sorted.{IsPermutation-keeps}

-- where an element of the swapped list stood before
record Moved {X : Type 0} (f g : ℕ → X) (a b n i : ℕ) : Type 0 where
  pub from : ℕ
  pub is : g i ≡ f from
  pub within : from < n
  pub how : ((i ≡ a) × (from ≡ b)) ⊎ (((i ≡ b) × (from ≡ a)) ⊎ ((i ≡ a → ⊥) × (i ≡ b → ⊥) × (from ≡ i)))

module _ {X : Type 0} (R : X → X → Type 0) (symmetric : (x y : X) → R x y → R y x) where
  both :
      (xs : List X) (d : X) → AllPairs R xs → (i j : ℕ) → i < length xs → j < length xs → (i ≡ j → ⊥) → R (get_or xs i d) (get_or xs j d)
  both xs d pairs i j wi wj differ = by_order (nat_lt i j) refl
    where
      by_order : (t : Bool) → nat_lt i j ≡ t → R (get_or xs i d) (get_or xs j d)
      by_order true e = pairs i j d (ltb-true i j e) wj
      by_order false e =
          let h : j ≤ i = ltb-false i j e in
          symmetric (get_or xs j d) (get_or xs i d) (pairs j i d (omega (arith, h, differ)) wi)

  moved :
      (f g : ℕ → X) (a b n i : ℕ) → a < n → b < n → i < n → Swapped f g a b → Moved f g a b n i
  moved f g a b n i wa wb wi s = at_a (i == a) refl
    where
      at_b : (t : Bool) → (i == b) ≡ t → (i ≡ a → ⊥) → Moved f g a b n i
      at_b true e other =
          let h : i ≡ b = eqb-true i b e in
          record { from = a; is = subst (λ (k : ℕ). g k ≡ f a) (sym h) s.1; within = wa; how = inr (inl (h, refl)) }
      at_b false e other =
          let h = eqb-false i b e in record { from = i; is = s.2 i other h; within = wi; how = inr (inr (other, h, refl)) }

      at_a : (t : Bool) → (i == a) ≡ t → Moved f g a b n i
      at_a true e =
          let h : i ≡ a = eqb-true i a e in
          record { from = b; is = subst (λ (k : ℕ). g k ≡ f b) (sym h) s.0; within = wb; how = inl (h, refl) }
      at_a false e = at_b (i == b) refl (eqb-false i a e)

  swapped_pairs :
      (xs : List X) (a b : ℕ) → a < length xs → b < length xs → AllPairs R xs → AllPairs R (swap xs a b)
  swapped_pairs xs a b wa wb pairs i j d low high =
      let s = swapped_from_swap xs (swap xs a b) a b d wa wb refl in
      let len : length (swap xs a b) ≡ length xs = length-swap xs a b in
      let mi = moved (λ (k : ℕ). get_or xs k d) (λ (k : ℕ). get_or (swap xs a b) k d) a b (length xs) i wa wb (omega (arith, low, high, len)) s in
      let mj = moved (λ (k : ℕ). get_or xs k d) (λ (k : ℕ). get_or (swap xs a b) k d) a b (length xs) j wa wb (omega (arith, high, len)) s in
      let differ : mi.from ≡ mj.from → ⊥ = λ e. apart i j mi.from mj.from a b low e mi.how mj.how in
      let r = both xs d pairs mi.from mj.from mi.within mj.within differ in
      subst (λ (x : X). R x (get_or (swap xs a b) j d)) (sym mi.is) (subst (λ (y : X). R (get_or xs mi.from d) y) (sym mj.is) r)
    where
      apart :
          (i j p q a b : ℕ) → i < j → p ≡ q →
          ((i ≡ a) × (p ≡ b)) ⊎ (((i ≡ b) × (p ≡ a)) ⊎ ((i ≡ a → ⊥) × (i ≡ b → ⊥) × (p ≡ i))) →
          ((j ≡ a) × (q ≡ b)) ⊎ (((j ≡ b) × (q ≡ a)) ⊎ ((j ≡ a → ⊥) × (j ≡ b → ⊥) × (q ≡ j))) → ⊥
      apart i j p q a b low e (inl x) (inl y) = omega (arith, x, y, low, e)
      apart i j p q a b low e (inl x) (inr (inl y)) = omega (arith, x, y, low, e)
      apart i j p q a b low e (inl x) (inr (inr y)) = y.1 (omega (arith, x, y.2, e))
      apart i j p q a b low e (inr (inl x)) (inl y) = omega (arith, x, y, low, e)
      apart i j p q a b low e (inr (inl x)) (inr (inl y)) = omega (arith, x, y, low, e)
      apart i j p q a b low e (inr (inl x)) (inr (inr y)) = y.0 (omega (arith, x, y.2, e))
      apart i j p q a b low e (inr (inr x)) (inl y) = x.1 (omega (arith, x.2, y, e))
      apart i j p q a b low e (inr (inr x)) (inr (inl y)) = x.0 (omega (arith, x.2, y, e))
      apart i j p q a b low e (inr (inr x)) (inr (inr y)) = omega (arith, x.2, y.2, low, e)

  pub AllPairs-permutation : (xs ys : List X) → IsPermutation xs ys → AllPairs R xs → AllPairs R ys
  AllPairs-permutation xs ys perm pairs =
      IsPermutation-keeps xs (AllPairs R) pairs (λ l i j wi wj p. swapped_pairs l i j wi wj p) ys perm
