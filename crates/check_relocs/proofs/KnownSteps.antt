-- What is known of things that have numbers, when nothing is known yet, and with one answer more.
use Rattle.std.proofs.Common.{◌≡◌, ℕ, ◌<◌, ◌≤◌, ◌⊎◌, inl, inr, List, Option, Some, None, get_or, length, set, sym, subst, arith}
use Rattle.std.specs.Prelude.{IfSome}
use Rattle.std.proofs.lemmas.List.{get_or_past, get_or-set_other, get_or-set_same, length-set}
use Rattle.check_link.proofs.Padded.{below_or_not}
use Rattle.check_relocs.specs.Known.{AreKnown, known_at}

-- a fact of the elements of a list, where past its end stands one of which the fact holds at each number
module _ {X : Type 0} (fact : ℕ → X → Type 0) (none : X) (past : (k : ℕ) → fact k none) where
  -- one element more
  kept_more :
      (xs new : List X) (j : ℕ) (x : X) → new ≡ set xs j x → ((k : ℕ) → fact k (get_or xs k none)) → fact j x → (k : ℕ) → fact k (get_or new k none)
  kept_more xs new j x put are here k = subst (λ (l : List X). fact k (get_or l k none)) (sym put) (by (below_or_not k j) (below_or_not j k))
    where
      other : (j ≡ k → ⊥) → fact k (get_or (set xs j x) k none)
      other apart = subst (fact k) (sym (get_or-set_other xs j k x none (λ e. apart (sym e)))) (are k)

      at : (j < length xs) ⊎ (length xs ≤ j) → fact j (get_or (set xs j x) j none)
      at (inl low) = subst (fact j) (sym (get_or-set_same xs j x none low)) here
      at (inr high) =
          let long = length-set xs j x in
          subst (fact j) (sym (get_or_past (set xs j x) j none (omega (arith, high, long)))) (past j)

      same : j ≡ k → fact k (get_or (set xs j x) k none)
      same e = subst (λ (i : ℕ). fact i (get_or (set xs j x) i none)) e (at (below_or_not j (length xs)))

      by : (k < j) ⊎ (j ≤ k) → (j < k) ⊎ (k ≤ j) → fact k (get_or (set xs j x) k none)
      by (inl low) either = other (λ e. absurd (omega (arith, low, e)))
      by (inr high) (inl low) = other (λ e. absurd (omega (arith, low, e)))
      by (inr high) (inr behind) = same (omega (arith, high, behind))

module _ {X : Type 0} (fact : ℕ → X → Type 0) where
  as_known : (o p : Option X) (k : ℕ) → p ≡ o → IfSome o (fact k) → IfSome p (fact k)
  as_known o p k same is = subst (λ (q : Option X). IfSome q (fact k)) (sym same) is

  -- nothing is known
  pub known_nothing : (ks : List (Option X)) → ((k : ℕ) → known_at ks k ≡ None) → AreKnown fact ks
  known_nothing ks none k = as_known None (known_at ks k) k (none k) tt

  -- what is known says less
  pub known_weaker : (other : ℕ → X → Type 0) (ks : List (Option X)) → ((k : ℕ) (x : X) → fact k x → other k x) → AreKnown fact ks → AreKnown other ks
  known_weaker other ks weaker are k = by (known_at ks k) (are k)
    where
      by : (o : Option X) → IfSome o (fact k) → IfSome o (other k)
      by (Some x) is = weaker k x is
      by None is = tt

  -- one answer more
  pub known_more : (ks new : List (Option X)) (j : ℕ) (x : X) → new ≡ set ks j (Some x) → AreKnown fact ks → fact j x → AreKnown fact new
  known_more ks new j x put are here = kept_more (λ k o. IfSome o (fact k)) None (λ k. tt) ks new j (Some x) put are here
