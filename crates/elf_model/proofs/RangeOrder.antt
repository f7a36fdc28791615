-- Ranges of bytes within sections of which each ends before the next begins are apart, and ranges in order that
-- are apart end so. A range is given by its section, its beginning and its end.
use Rattle.std.proofs.Common.{◌≡◌, ◌⊎◌, ℕ, suc, ◌+◌, ◌<◌, ◌≤◌, ◌==◌, inl, inr, Bool, true, false, List, [], ◌∷◌, length, get_or, nat_lt, refl, sym, ◌∙◌, subst, arith}
use Rattle.std.specs.Prelude.{All, AllPairs, IsPermutation, IsSortedByKey}
use Rattle.std.specs.Ordering.{is_lt, nat_cmp, ordering_then}
use Rattle.std.proofs.lemmas.Bool.{eqb-true, eqb-false, ltb-true, ltb-false}
use Rattle.std.proofs.lemmas.Bool.Decides.{nat_tests}
use Rattle.std.proofs.lemmas.List.Elements.{All-cons, All-head, All-nil, All-tail, All-weaker}
use Rattle.std.proofs.lemmas.List.Kept.{AllPairs-cons}
use Rattle.elf_model.proofs.Pairs.{AllPairs-head, AllPairs-nil, AllPairs-weaker}
use Rattle.elf_model.proofs.PairsPermuted.{AllPairs-permutation}

-- what a comparison of sections and then of beginnings says
not_less : (s t p q : ℕ) → is_lt (ordering_then (nat_cmp s t) (nat_cmp p q)) ≡ false → (t ≤ s) × (t ≡ s → q ≤ p)
not_less s t p q e = (grind (arith, nat_tests), λ same. grind (arith, nat_tests))

module _ {X : Type 0} (section start end : X → ℕ) where
  abbrev IsSome : X → Type 0
  IsSome f = start f < end f

  abbrev AreApart : X → X → Type 0
  AreApart f g = section f ≡ section g → (k : ℕ) → start f ≤ k → k < end f → start g ≤ k → k < end g → ⊥

  abbrev IsBefore : X → X → Type 0
  IsBefore f g = (section f < section g) ⊎ ((section f ≡ section g) × (end f ≤ start g))

  abbrev IsBehind : X → X → Type 0
  IsBehind f g = (section f ≤ section g) × (section f ≡ section g → start f ≤ start g)

  -- neighbours are related
  abbrev AreNear : (X → X → Type 0) → List X → Type 0
  AreNear R xs = (k : ℕ) (d : X) → k + 1 < length xs → R (get_or xs k d) (get_or xs (k + 1) d)

  before_trans : (f g h : X) → IsBefore f g → IsSome g → IsBefore g h → IsBefore f h
  before_trans f g h (inl p) s (inl q) = inl (omega (arith, p, q))
  before_trans f g h (inl p) s (inr q) = inl (omega (arith, p, q))
  before_trans f g h (inr p) s (inl q) = inl (omega (arith, p, q))
  before_trans f g h (inr p) s (inr q) = inr (p.0 ∙ q.0, omega (arith, p, q, s))

  before_apart : (f g : X) → IsBefore f g → AreApart f g
  before_apart f g (inl p) same k a b c d = omega (arith, p, same)
  before_apart f g (inr p) same k a b c d = omega (arith, p, a, b, c, d)

  apart_sym : (f g : X) → AreApart f g → AreApart g f
  apart_sym f g h same k a b c d = h (sym same) k c d a b

  -- of two ranges in order that are apart, the first ends before the second begins
  behind_before : (f g : X) → IsSome g → IsBehind f g → AreApart f g → IsBefore f g
  behind_before f g some behind apart = by_section (section f == section g) refl
    where
      by_start : (b : Bool) → nat_lt (start g) (end f) ≡ b → section f ≡ section g → IsBefore f g
      by_start true e same = absurd (apart same (start g) (behind.1 same) (ltb-true (start g) (end f) e) (omega arith) some)
      by_start false e same = inr (same, ltb-false (start g) (end f) e)

      by_section : (b : Bool) → (section f == section g) ≡ b → IsBefore f g
      by_section true e = by_start (nat_lt (start g) (end f)) refl (eqb-true (section f) (section g) e)
      by_section false e =
          let differ = eqb-false (section f) (section g) e in
          let low = behind.0 in inl (omega (arith, low, differ))

  rise_tail : (x : X) (xs : List X) → AreNear IsBefore (x ∷ xs) → AreNear IsBefore xs
  rise_tail x xs up k d low =
      let e : suc k + 1 ≡ suc (k + 1) = omega arith in
      subst (λ (n : ℕ). IsBefore (get_or xs k d) (get_or (x ∷ xs) n d)) e (up (suc k) d (omega (arith, low)))

  -- the first of ranges that rise ends before each later one
  first_before : (x : X) (ys : List X) → All IsSome ys → AreNear IsBefore (x ∷ ys) → AllPairs IsBefore ys → All (IsBefore x) ys
  first_before x [] some up pairs = All-nil (IsBefore x)
  first_before x (y ∷ ys) some up pairs =
      let first : IsBefore x y = up 0 x (omega arith) in
      All-cons (IsBefore x) y ys first
      (All-weaker (IsBefore y) (IsBefore x) (λ z q. before_trans x y z first (All-head IsSome y ys some) q) ys
      (AllPairs-head IsBefore y ys pairs))

  pub rise_pairs : (xs : List X) → All IsSome xs → AreNear IsBefore xs → AllPairs IsBefore xs
  rise_pairs [] some up = AllPairs-nil IsBefore
  rise_pairs (x ∷ xs) some up =
      let rest = rise_pairs xs (All-tail IsSome x xs some) (rise_tail x xs up) in
      AllPairs-cons IsBefore x xs (first_before x xs (All-tail IsSome x xs some) up rest) rest

  pub rise_apart : (xs : List X) → All IsSome xs → AreNear IsBefore xs → AllPairs AreApart xs
  rise_apart xs some up = AllPairs-weaker IsBefore AreApart before_apart xs (rise_pairs xs some up)

  apart_rise : (xs : List X) → All IsSome xs → AreNear IsBehind xs → AllPairs AreApart xs → AreNear IsBefore xs
  apart_rise xs some ordered apart k d low =
      behind_before (get_or xs k d) (get_or xs (k + 1) d) (some (k + 1) d low) (ordered k d low)
      (apart k (k + 1) d (omega arith) low)

  -- both sides, for ranges that were put in order
  pub ordered_apart :
      (xs ys : List X) → IsPermutation xs ys → IsPermutation ys xs → All IsSome ys → AreNear IsBehind ys →
      (AreNear IsBefore ys → AllPairs AreApart xs) × (AllPairs AreApart xs → AreNear IsBefore ys)
  ordered_apart xs ys there back some ordered = (
    λ up. AllPairs-permutation AreApart apart_sym ys xs back (rise_apart ys some up),
    λ apart. apart_rise ys some ordered (AllPairs-permutation AreApart apart_sym xs ys there apart),
  )

  pub sorted_ordered :
      (xs : List X) → IsSortedByKey {K = ℕ × ℕ} (λ f. (section f, start f)) (λ x y. ordering_then (nat_cmp x.0 y.0) (nat_cmp x.1 y.1)) xs →
      AreNear IsBehind xs
  sorted_ordered xs up k d low =
      not_less (section (get_or xs (k + 1) d)) (section (get_or xs k d)) (start (get_or xs (k + 1) d)) (start (get_or xs k d))
      (up k d (omega arith) low)
