-- Elements whose numbers do not fall, before the first that a bound keeps out and from it on.
use Rattle.std.proofs.Common.{◌≡◌, ℕ, ◌<◌, ◌≤◌, Bool, true, false, List, length, get_or, arith}
use Rattle.std.specs.Prelude.{nat_le, nat_lt}
use Rattle.std.specs.Borrow.{Bor}
use Rattle.std.specs.Fn.{Called, ComputesKey, Mut}
use Rattle.std.specs.List.Sorted.{IsNonDecreasingBy, IsPartitionPoint, IsPartitionedBy}
use Rattle.std.proofs.lemmas.Bool.{leb-false, leb-true, ltb-false, ltb-true}
use Rattle.std.proofs.lemmas.List.Sorted.{IsPartitionPoint-from_clause, IsPartitionedBy-leb, IsPartitionedBy-ltb}

module _ {X : Type 0} (n : X → ℕ) {F : Type 0} {g : Mut F (Bor X × Unit {0}) Bool} {f : F} (xs : List X) (t i : ℕ) (rising : IsNonDecreasingBy n xs) (clause : (q : X → Bool) → ComputesKey g q f → IsPartitionedBy q xs → IsPartitionPoint (λ y. q y ≡ true) (λ y. q y ≡ false) xs i) where
  -- the bound keeps itself out
  pub parted_below :
      ((a : Bor X × Unit {0}) (r : Bool) (f' : F) → Called g f a r f' → (r ≡ nat_lt (n a.0.now) t) × (f' ≡ f)) →
      ((k : ℕ) (d : X) → k < i → n (get_or xs k d) < t) × ((k : ℕ) (d : X) → i ≤ k → k < length xs → t ≤ n (get_or xs k d))
  parted_below own =
      let point = IsPartitionPoint-from_clause (λ (x : X). nat_lt (n x) t) xs i clause (IsPartitionedBy-ltb n xs t rising) own in
      (λ k d below. ltb-true _ _ (point.0 k d (omega arith) below), λ k d from within. ltb-false _ _ (point.1 k d from within))

  -- the bound lets itself in
  pub parted_through :
      ((a : Bor X × Unit {0}) (r : Bool) (f' : F) → Called g f a r f' → (r ≡ nat_le (n a.0.now) t) × (f' ≡ f)) →
      ((k : ℕ) (d : X) → k < i → n (get_or xs k d) ≤ t) × ((k : ℕ) (d : X) → i ≤ k → k < length xs → t < n (get_or xs k d))
  parted_through own =
      let point = IsPartitionPoint-from_clause (λ (x : X). nat_le (n x) t) xs i clause (IsPartitionedBy-leb n xs t rising) own in
      (λ k d below. leb-true _ _ (point.0 k d (omega arith) below), λ k d from within. leb-false _ _ (point.1 k d from within))
