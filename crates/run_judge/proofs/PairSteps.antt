-- One step of the walk over sections, as the code has them, and all of them.
use Rattle.std.proofs.Common.{◌≡◌, ℕ, ◌+◌, ◌<◌, ◌≤◌, ◌⊎◌, inl, inr, false, List, [], Option, None, Some, length, get_or, refl, subst, sym, arith}
use Rattle.std.specs.Prelude.{◌↔◌, Any, IfSome, IsSomeAnd, slice_index_or}
use Rattle.std.proofs.lemmas.List.{get_or-map, length-map}
use Rattle.memory_judge.proofs.SpanLaws.{Any-none}
use Rattle.elf_model.specs.Link.Placement as placement
use Rattle.check_link.proofs.Padded.{below_or_not}
use Rattle.check_link.specs.Views.{placed_view, placed_views}
use Rattle.check_link.specs.declared.output_sections.OutputSection.{OutputSection}
use Rattle.check_link.specs.declared.things.Placed.{Placed}
use Rattle.judge_model.specs.Runs.{IsNext, in_run_order, is_free}
use Rattle.run_judge.specs.Pairs.{AreLasts, AreNextBelow, ArePairsBelow, AreRunPairs, IsBefore, IsLast, IsPair, IsRunSection, over_last}
use Rattle.run_judge.specs.declared.pairs.RunPair.{RunPair}
use Rattle.run_judge.proofs.RunSteps.{StandsAt, before_is, last_within, lasts_more}

module _ (placed : List Placed) where
  abbrev all : List placement.Placed
  all = placed_views placed

  pub stands : (i : ℕ) (d : Placed) → i < length placed → StandsAt all i (placed_view (get_or placed i d))
  stands i d within = λ e. get_or-map placed_view placed i d e within

  pub long : length all ≡ length placed
  long = length-map placed placed_view

  module _ (j : ℕ) (d : Placed) (within : j < length placed) where
    abbrev x : Placed
    x = get_or placed j d

    here : StandsAt all j (placed_view x)
    here = stands j d within

    there : j < length all
    there = let n = long in omega (arith, n, within)

    module _ (s : OutputSection) (f : OutputSection → Option ℕ) (is : IsRunSection (placed_view x).piece s) (lasts : AreLasts all j f) (o : Option ℕ) (old : o ≡ f s) where
      last : IsLast all j (placed_view x).piece o
      last = subst (IsLast all j (placed_view x).piece) (sym old) (lasts.last (placed_view x).piece s is)

      pub last_inside : IfSome o (λ i. i < length placed)
      last_inside = by o (last_within all j (placed_view x) here there o last)
        where
          by : (p : Option ℕ) → IfSome p (λ i. i < length all) → IfSome p (λ i. i < length placed)
          by None h = tt
          by (Some i) h = let n = long in omega (arith, n, h)

      pub before_told :
          (r : Option ℕ) →
          ((i : ℕ) (d : placement.Placed) → (r ≡ Some i) ↔ ((o ≡ Some i) × (is_free (slice_index_or all i d).piece.name ≡ false))) →
          IsBefore all j r
      before_told r counted = before_is all j (placed_view x) here there o r last counted

      pub lasts_told : (g : OutputSection → Option ℕ) → ((t : OutputSection) → g t ≡ over_last s j f t) → AreLasts all (j + 1) g
      lasts_told g more = lasts_more all j (placed_view x) s f g here is more lasts

-- The pairs of the first sections, and of one more.
module _ (qs : List placement.Placed) (j : ℕ) (o : Option ℕ) (before : IsBefore qs j o) where
  abbrev Told : placement.Placed → placement.Placed → Type 0
  Told p q = IsSomeAnd o (λ i. (slice_index_or qs i p ≡ p) × (slice_index_or qs j p ≡ q))

  next_told : (p q : placement.Placed) → AreNextBelow qs (j + 1) p q → AreNextBelow qs j p q ⊎ Told p q
  next_told p q h = by (below_or_not h.j j)
    where
      by : (h.j < j) ⊎ (j ≤ h.j) → AreNextBelow qs j p q ⊎ Told p q
      by (inl low) = inl (record { i = h.i; j = h.j; below = low; next = h.next; first = h.first; second = h.second })
      by (inr high) =
          let b = h.below in
          let e : h.j ≡ j = omega (arith, b, high) in
          let found : o ≡ Some h.i = (before.told h.i p).0 (subst (λ (n : ℕ). IsNext qs h.i n p) e h.next) in
          inr
          (subst (λ (r : Option ℕ). IsSomeAnd r (λ i. (slice_index_or qs i p ≡ p) × (slice_index_or qs j p ≡ q))) (sym found)
          (h.first, subst (λ (n : ℕ). slice_index_or qs n p ≡ q) e h.second))

  told_next : (p q : placement.Placed) → (r : Option ℕ) → o ≡ r → IsSomeAnd r (λ i. (slice_index_or qs i p ≡ p) × (slice_index_or qs j p ≡ q)) → AreNextBelow qs (j + 1) p q
  told_next p q None e never = absurd never
  told_next p q (Some i) e both = record {
    i = i;
    j = j;
    below = omega arith;
    next = (before.told i p).1 e;
    first = both.0;
    second = both.1;
  }

  more_below : (p q : placement.Placed) → AreNextBelow qs j p q → AreNextBelow qs (j + 1) p q
  more_below p q h = record { i = h.i; j = h.j; below = let b = h.below in omega (arith, b); next = h.next; first = h.first; second = h.second }

  pub pairs_more :
      (ps ns : List RunPair) (pair : Option RunPair) → ArePairsBelow qs j ps →
      ((p q d : placement.Placed) → IsSomeAnd pair (IsPair p q) ↔ IsSomeAnd o (λ i. (slice_index_or qs i d ≡ p) × (slice_index_or qs j d ≡ q))) →
      ((p q : placement.Placed) → Any (IsPair p q) ns ↔ (Any (IsPair p q) ps ⊎ IsSomeAnd pair (IsPair p q))) →
      ArePairsBelow qs (j + 1) ns
  pairs_more ps ns pair are is more = record { told = λ p q. (to p q, from p q) }
    where
      to : (p q : placement.Placed) → AreNextBelow qs (j + 1) p q → Any (IsPair p q) ns
      to p q h = by (next_told p q h)
        where
          by : AreNextBelow qs j p q ⊎ Told p q → Any (IsPair p q) ns
          by (inl old) = (more p q).1 (inl ((are.told p q).0 old))
          by (inr new) = (more p q).1 (inr ((is p q p).1 new))

      from : (p q : placement.Placed) → Any (IsPair p q) ns → AreNextBelow qs (j + 1) p q
      from p q some = by ((more p q).0 some)
        where
          by : Any (IsPair p q) ps ⊎ IsSomeAnd pair (IsPair p q) → AreNextBelow qs (j + 1) p q
          by (inl old) = more_below p q ((are.told p q).1 old)
          by (inr new) = told_next p q o refl ((is p q p).0 new)

pub no_pairs : (qs : List placement.Placed) (ps : List RunPair) → ps ≡ [] → ArePairsBelow qs 0 ps
no_pairs qs ps none = record {
  told = λ p q. (
    λ h. let b = h.below in absurd (omega (arith, b)),
    λ some. absurd (Any-none (IsPair p q) (subst (Any (IsPair p q)) none some)),
  );
}

pub pairs_end : (qs : List placement.Placed) (n m : ℕ) (ps : List RunPair) → length qs ≤ n → length qs ≤ m → ArePairsBelow qs n ps → ArePairsBelow qs m ps
pairs_end qs n m ps past behind are = record {
  told = λ p q. (λ h. (are.told p q).0 (at n past p q m h), λ some. at m behind p q n ((are.told p q).1 some));
}
  where
    at : (k : ℕ) → length qs ≤ k → (p q : placement.Placed) (i : ℕ) → AreNextBelow qs i p q → AreNextBelow qs k p q
    at k low p q i h = record {
      i = h.i;
      j = h.j;
      below = let w = h.next.1 in omega (arith, low, w);
      next = h.next;
      first = h.first;
      second = h.second;
    }

pub pairs_of_runs :
    (qs ordered : List placement.Placed) (n : ℕ) (ps : List RunPair) → ordered ≡ in_run_order qs → length ordered ≤ n → ArePairsBelow ordered n ps →
    AreRunPairs qs ps
pairs_of_runs qs ordered n ps is low are = record {
  told = λ p q. (
    λ h. (own.told p q).0 (record {
      i = h.i;
      j = h.j;
      below = let w = h.next.1 in omega (arith, within, w);
      next = h.next;
      first = h.first;
      second = h.second;
    }),
    λ some.
        let h = (own.told p q).1 some in
        record { i = h.i; j = h.j; next = h.next; first = h.first; second = h.second },
  );
}
  where
    own : ArePairsBelow (in_run_order qs) n ps
    own = subst (λ (os : List placement.Placed). ArePairsBelow os n ps) is are

    within : length (in_run_order qs) ≤ n
    within = subst (λ (os : List placement.Placed). length os ≤ n) is low
