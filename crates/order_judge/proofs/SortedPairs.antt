-- Pairs of numbers in order: two lists have the same pairs where they are equal once they are sorted.
use Rattle.std.proofs.Common.{◌≡◌, ℕ, ◌<◌, ◌==◌, ◌&&◌, ◌⊎◌, inl, inr, Bool, true, false, cond, List, [], ◌∷◌, ap, arith, refl, subst, sym, ◌∙◌, eq-eqb}
use Rattle.std.specs.Prelude.{◌↔◌, AllPairs, Contains, IsPermutation, count_by}
use Rattle.std.specs.Bool.{Decides}
use Rattle.std.specs.List.Sorted.{IsSorted}
use Rattle.std.specs.Ordering.{MatchOrdering, is_lt, nat_cmp, ordering_then}
use Rattle.std.specs.declared.cmp.Ordering.{Ordering}
use Rattle.std.specs.declared.cmp.Ordering.TheVariants.{Less, Equal, Greater}
use Rattle.std.proofs.lemmas.Bool.{and_from, and_parts, eqb-true, false≢true}
use Rattle.std.proofs.lemmas.Cmp.{nat_cmp_total, on_total, ranked, then_total}
use Rattle.std.proofs.lemmas.List.Elements.{All-contains}
use Rattle.std.proofs.lemmas.List.Sorted.{IsPermutation-sym, IsPermutation-trans, ranks_by, sorted_far}
use Rattle.elf_model.proofs.Listed.{Contains-cons_cases, Contains-here, Contains-there}
use Rattle.elf_model.proofs.Pairs.{AllPairs-head, AllPairs-tail}
use Rattle.elf_model.proofs.RisingNames.{count_permuted, counted}
use Rattle.order_judge.specs.Pairs.{pair_cmp}

abbrev is_below : ℕ × ℕ → ℕ × ℕ → Bool
is_below a b = is_lt (pair_cmp a b)

-- two pairs of which neither is below the other are one
between : (a b : ℕ × ℕ) → is_below a b ≡ false → is_below b a ≡ false → a ≡ b
between a b low high =
    by (nat_cmp a.0 b.0) (nat_cmp a.1 b.1) (nat_cmp b.0 a.0) (nat_cmp b.1 a.1) (ranked a.0 b.0 (nat_cmp a.0 b.0) refl) (ranked a.1 b.1 (nat_cmp a.1 b.1) refl)
    (ranked b.0 a.0 (nat_cmp b.0 a.0) refl) (ranked b.1 a.1 (nat_cmp b.1 a.1) refl) low high
  where
    by : (p q r s : Ordering) → MatchOrdering p (a.0 < b.0) (a.0 ≡ b.0) (b.0 < a.0) → MatchOrdering q (a.1 < b.1) (a.1 ≡ b.1) (b.1 < a.1) →
        MatchOrdering r (b.0 < a.0) (b.0 ≡ a.0) (a.0 < b.0) → MatchOrdering s (b.1 < a.1) (b.1 ≡ a.1) (a.1 < b.1) →
        is_lt (ordering_then p q) ≡ false → is_lt (ordering_then r s) ≡ false → a ≡ b
    by Less q r s m n k l low high = absurd (false≢true (sym low))
    by Greater q Less s m n k l low high = absurd (false≢true (sym high))
    by Greater q Equal s m n k l low high = absurd (omega (arith, m, k))
    by Greater q Greater s m n k l low high = absurd (omega (arith, m, k))
    by Equal Less r s m n k l low high = absurd (false≢true (sym low))
    by Equal Equal r s m n k l low high = (λ j. (m j, n j))
    by Equal Greater Less s m n k l low high = absurd (false≢true (sym high))
    by Equal Greater Greater s m n k l low high = absurd (omega (arith, m, k))
    by Equal Greater Equal Less m n k l low high = absurd (false≢true (sym high))
    by Equal Greater Equal Equal m n k l low high = absurd (omega (arith, n, l))
    by Equal Greater Equal Greater m n k l low high = absurd (omega (arith, n, l))

abbrev is_same : ℕ × ℕ → ℕ × ℕ → Bool
is_same a b = a.0 == b.0 && a.1 == b.1

same_self : (a : ℕ × ℕ) → is_same a a ≡ true
same_self a = and_from (a.0 == a.0) (a.1 == a.1) (eq-eqb a.0 a.0 refl) (eq-eqb a.1 a.1 refl)

same_is : (a b : ℕ × ℕ) → is_same a b ≡ true → a ≡ b
same_is a b t =
    let parts = and_parts (a.0 == b.0) (a.1 == b.1) t in
    let first = eqb-true a.0 b.0 parts.0 in
    let second = eqb-true a.1 b.1 parts.1 in
    (λ j. (first j, second j))

pub same_decides : (a b : ℕ × ℕ) → Decides (is_same a b) (a ≡ b)
same_decides a b = (same_is a b, λ e. subst (λ (c : ℕ × ℕ). is_same a c ≡ true) e (same_self a))

-- what counts stands in the list
counts : (z : ℕ × ℕ) (xs : List (ℕ × ℕ)) → 0 < count_by (is_same z) xs → Contains xs z
counts z [] some = absurd (omega (arith, some))
counts z (x ∷ xs) some = by (is_same z x) refl (counts z xs)
  where
    by : (b : Bool) → is_same z x ≡ b → (0 < count_by (is_same z) xs → Contains xs z) → Contains (x ∷ xs) z
    by true e rest = subst (λ (y : ℕ × ℕ). Contains (y ∷ xs) z) (same_is z x e) (Contains-here xs z)
    by false e rest =
        let n = counted (is_same z) x xs in
        let m : ◌≡◌ {A = ℕ} (cond (is_same z x) 1 0) 0 = ap (λ b. cond b 1 0) e in
        Contains-there x xs z (rest (omega (arith, n, m, some)))

-- sorted lists of which each pair counts alike are one
abbrev Rises : List (ℕ × ℕ) → Type 0
Rises xs = AllPairs (λ a b. is_below b a ≡ false) xs

least : (x y : ℕ × ℕ) (ys : List (ℕ × ℕ)) → Rises (y ∷ ys) → Contains (y ∷ ys) x → (y ≡ x) ⊎ (is_below x y ≡ false)
least x y ys rises c = by (Contains-cons_cases y ys x c)
  where
    by : (y ≡ x) ⊎ Contains ys x → (y ≡ x) ⊎ (is_below x y ≡ false)
    by (inl e) = inl e
    by (inr there) = inr (All-contains (λ b. is_below b y ≡ false) ys x (AllPairs-head (λ a b. is_below b a ≡ false) y ys rises) there)

same_lists : (xs ys : List (ℕ × ℕ)) → Rises xs → Rises ys → ((z : ℕ × ℕ) → count_by (is_same z) ys ≡ count_by (is_same z) xs) → xs ≡ ys
same_lists [] [] up to alike = refl
same_lists [] (y ∷ ys) up to alike =
    let n = counted (is_same y) y ys in
    let m : ◌≡◌ {A = ℕ} (cond (is_same y y) 1 0) 1 = ap (λ b. cond b 1 0) (same_self y) in
    let e = alike y in
    absurd (omega (arith, n, m, e))
same_lists (x ∷ xs) [] up to alike =
    let n = counted (is_same x) x xs in
    let m : ◌≡◌ {A = ℕ} (cond (is_same x x) 1 0) 1 = ap (λ b. cond b 1 0) (same_self x) in
    let e = alike x in
    absurd (omega (arith, n, m, e))
same_lists (x ∷ xs) (y ∷ ys) up to alike = joined (same_lists xs ys (AllPairs-tail R x xs up) (AllPairs-tail R y ys to) others)
  where
    R : ℕ × ℕ → ℕ × ℕ → Type 0
    R a b = is_below b a ≡ false

    here : (z : ℕ × ℕ) (zs : List (ℕ × ℕ)) → 0 < count_by (is_same z) (z ∷ zs)
    here z zs =
        let n = counted (is_same z) z zs in
        let m : ◌≡◌ {A = ℕ} (cond (is_same z z) 1 0) 1 = ap (λ b. cond b 1 0) (same_self z) in
        omega (arith, n, m)

    x_there : Contains (y ∷ ys) x
    x_there = let h = here x xs in let e = alike x in counts x (y ∷ ys) (omega (arith, h, e))

    y_there : Contains (x ∷ xs) y
    y_there = let h = here y ys in let e = alike y in counts y (x ∷ xs) (omega (arith, h, e))

    first : x ≡ y
    first = by (least x y ys to x_there) (least y x xs up y_there)
      where
        by : (y ≡ x) ⊎ (is_below x y ≡ false) → (x ≡ y) ⊎ (is_below y x ≡ false) → x ≡ y
        by (inl e) other = sym e
        by (inr low) (inl e) = e
        by (inr low) (inr high) = between x y low high

    others : (z : ℕ × ℕ) → count_by (is_same z) ys ≡ count_by (is_same z) xs
    others z =
        let n = counted (is_same z) x xs in
        let m = counted (is_same z) y ys in
        let e = alike z in
        let one : ◌≡◌ {A = ℕ} (cond (is_same z x) 1 0) (cond (is_same z y) 1 0) = ap (λ (w : ℕ × ℕ). cond (is_same z w) 1 0) first in
        omega (arith, n, m, e, one)

    joined : xs ≡ ys → x ∷ xs ≡ y ∷ ys
    joined rest = (λ j. first j ∷ rest j)

pub rises : (xs : List (ℕ × ℕ)) → IsSorted pair_cmp xs → Rises xs
rises xs sorted_ i j d low within =
    sorted_far is_below (ranks_by (then_total (on_total (λ (p : ℕ × ℕ). p.0) nat_cmp_total) (on_total (λ (p : ℕ × ℕ). p.1) nat_cmp_total)) (λ (p : ℕ × ℕ). p)) xs sorted_ i j d
    (omega (arith, low)) within

pub same_sorted :
    (xs ys us vs : List (ℕ × ℕ)) → IsPermutation xs us → IsPermutation ys vs → IsSorted pair_cmp us → IsSorted pair_cmp vs → (us ≡ vs) ↔ IsPermutation xs ys
same_sorted xs ys us vs p q up to = (
  λ e. IsPermutation-trans xs us ys p (subst (λ (l : List (ℕ × ℕ)). IsPermutation l ys) (sym e) (IsPermutation-sym ys vs q)),
  λ h.
      same_lists us vs (rises us up) (rises vs to)
      (λ z. count_permuted (is_same z) ys vs q ∙ (count_permuted (is_same z) xs ys h ∙ sym (count_permuted (is_same z) xs us p))),
)
