-- A transitive relation of neighbours holds of all pairs.
use Rattle.std.proofs.Common.{◌≡◌, ℕ, zero, suc, ◌+◌, ◌-◌, ◌<◌, List, length, get_or, arith, subst}
use Rattle.std.specs.Prelude.{AllPairs}

module _ {X : Type 0} (R : X → X → Type 0) (trans : (x y z : X) → R x y → R y z → R x z) (xs : List X) (near : (k : ℕ) (d : X) → k + 1 < length xs → R (get_or xs k d) (get_or xs (k + 1) d)) where
  after : (n i : ℕ) (d : X) → (i + n) + 1 < length xs → R (get_or xs i d) (get_or xs ((i + n) + 1) d)
  after zero i d h = let e : i + 0 ≡ i = omega arith in rw e (near i d (omega arith))
  after (suc n) i d h =
      let e : i + suc n ≡ (i + n) + 1 = omega arith in
      rw e (trans _ _ _ (after n i d (omega arith)) (near ((i + n) + 1) d (omega arith)))

  pub pairs_of_neighbours : AllPairs R xs
  pairs_of_neighbours i j d below within =
      let e : (i + (j - (i + 1))) + 1 ≡ j = omega arith in
      subst (λ (m : ℕ). R (get_or xs i d) (get_or xs m d)) e (after (j - (i + 1)) i d (omega arith))
