-- Lists by rising ranks, the elements of one rank as they stood: they are told by their ranks and by the elements of each
-- rank, so a stable sort gives them; and filters, maps and lists of one rank go along.
use Rattle.std.proofs.Common.{◌≡◌, ℕ, suc, ◌<◌, ◌≤◌, ◌==◌, Bool, true, false, cond, ◌⊎◌, inl, inr, List, [], ◌∷◌, map, refl, sym, ◌∙◌, ap, subst, arith, nat_le}
use Rattle.std.specs.Prelude.{All, Contains, IsPermutation, filter}
use Rattle.std.specs.List.Sorted.{IsNonDecreasingBy, IsStableByKey, ties}
use Rattle.std.specs.Ordering.{is_lt, nat_cmp}
use Rattle.std.proofs.lemmas.Bool.{eq-eqb, eqb-true, eqb-false, leb-true, leb-false}
use Rattle.std.proofs.lemmas.Bool.Decides.{nat_tests}
use Rattle.std.proofs.lemmas.List.Elements.{All-cons, All-contains, All-head, All-nil, All-tail, All-weaker, filter_agree}
use Rattle.std.proofs.lemmas.List.Sorted.{IsPermutation-cons, IsPermutation-refl, IsPermutation-swap, IsPermutation-trans}
use Rattle.elf_model.specs.Link.ArrayOrder.{by_rank, inserted}
use Rattle.elf_model.proofs.Listed.{All-from_contains, Contains-cons_cases, Contains-filter, Contains-from_filter, Contains-here, Contains-nil, cons_head, cons_tail}

-- what a filter does with a first element that passes, and with one that doesn't
keeps_one : {X : Type 0} (p : X → Bool) (x : X) (xs : List X) → p x ≡ true → filter p (x ∷ xs) ≡ x ∷ filter p xs
keeps_one p x xs e = rw e refl

leaves : {X : Type 0} (p : X → Bool) (x : X) (xs : List X) → p x ≡ false → filter p (x ∷ xs) ≡ filter p xs
leaves p x xs e = rw e refl

keeps : {X : Type 0} (p : X → Bool) (x : X) (xs : List X) → p x ≡ true → (q : X → Bool) → filter q (filter p (x ∷ xs)) ≡ filter q (x ∷ filter p xs)
keeps p x xs e q = ap (filter q) (keeps_one p x xs e)

-- two filters may change places
filters_turned : {X : Type 0} (s t : X → Bool) (xs : List X) → filter s (filter t xs) ≡ filter t (filter s xs)
filters_turned s t [] = refl
filters_turned {X} s t (x ∷ xs) = by (s x) (t x) refl refl (filters_turned s t xs)
  where
    by : (b c : Bool) → s x ≡ b → t x ≡ c → filter s (filter t xs) ≡ filter t (filter s xs) → filter s (filter t (x ∷ xs)) ≡ filter t (filter s (x ∷ xs))
    by true true e f rest = keeps t x xs f s ∙ (keeps_one s x (filter t xs) e ∙ (ap (λ (l : List X). x ∷ l) rest ∙ (sym (keeps_one t x (filter s xs) f) ∙ sym (keeps s x xs e t))))
    by true false e f rest = ap (filter s) (leaves t x xs f) ∙ (rest ∙ (sym (leaves t x (filter s xs) f) ∙ sym (keeps s x xs e t)))
    by false true e f rest = keeps t x xs f s ∙ (leaves s x (filter t xs) e ∙ (rest ∙ ap (filter t) (sym (leaves s x xs e))))
    by false false e f rest = ap (filter s) (leaves t x xs f) ∙ (rest ∙ ap (filter t) (sym (leaves s x xs e)))

module _ {X : Type 0} (rank : X → ℕ) where
  -- of one rank
  abbrev pub same_rank : X → X → Bool
  same_rank x y = rank x == rank y

  -- each element is followed by none of a lower rank
  abbrev pub IsRising : List X → Type 0
  IsRising [] = Unit {0}
  IsRising (x ∷ xs) = All (λ y. rank x ≤ rank y) xs × IsRising xs

  of_its_own : (x : X) → same_rank x x ≡ true
  of_its_own x = eq-eqb (rank x) (rank x) refl

  -- an element that is of a rank in another list isn't below the first there
  first_low : (x y : X) (ys : List X) → IsRising (y ∷ ys) → Contains (filter (same_rank x) (y ∷ ys)) x → rank y ≤ rank x
  first_low x y ys rising c = by (Contains-cons_cases y ys x (Contains-from_filter (same_rank x) (y ∷ ys) x c).0)
    where
      by : (y ≡ x) ⊎ Contains ys x → rank y ≤ rank x
      by (inl e) = let same = ap rank e in omega (arith, same)
      by (inr there) = All-contains (λ z. rank y ≤ rank z) ys x rising.0 there

  same_first : (x y : X) (xs ys : List X) → IsRising (x ∷ xs) → IsRising (y ∷ ys) → ((z : X) → filter (same_rank z) (x ∷ xs) ≡ filter (same_rank z) (y ∷ ys)) → rank x ≡ rank y
  same_first x y xs ys rx ry same =
      let cx : Contains (filter (same_rank x) (x ∷ xs)) x = Contains-filter (same_rank x) (x ∷ xs) x (Contains-here xs x) (of_its_own x) in
      let cy : Contains (filter (same_rank y) (y ∷ ys)) y = Contains-filter (same_rank y) (y ∷ ys) y (Contains-here ys y) (of_its_own y) in
      let low = first_low x y ys ry (subst (λ (l : List X). Contains l x) (same x) cx) in
      let high = first_low y x xs rx (subst (λ (l : List X). Contains l y) (sym (same y)) cy) in
      omega (arith, low, high)

  -- two rising lists with the same elements of each rank are equal
  pub rising_is : (xs ys : List X) → IsRising xs → IsRising ys → ((z : X) → filter (same_rank z) xs ≡ filter (same_rank z) ys) → xs ≡ ys
  rising_is [] [] rx ry same = refl
  rising_is [] (y ∷ ys) rx ry same =
      absurd (Contains-nil y (subst (λ (l : List X). Contains l y) (sym (same y))
      (Contains-filter (same_rank y) (y ∷ ys) y (Contains-here ys y) (of_its_own y))))
  rising_is (x ∷ xs) [] rx ry same =
      absurd (Contains-nil x (subst (λ (l : List X). Contains l x) (same x)
      (Contains-filter (same_rank x) (x ∷ xs) x (Contains-here xs x) (of_its_own x))))
  rising_is (x ∷ xs) (y ∷ ys) rx ry same =
      let ranks = same_first x y xs ys rx ry same in
      let in_y : same_rank x y ≡ true = eq-eqb (rank x) (rank y) ranks in
      let whole : x ∷ filter (same_rank x) xs ≡ y ∷ filter (same_rank x) ys =
      sym (keeps_one (same_rank x) x xs (of_its_own x)) ∙ (same x ∙ keeps_one (same_rank x) y ys in_y) in
      let first : x ≡ y = cons_head whole in
      let rest : xs ≡ ys = rising_is xs ys rx.1 ry.1 (tails first) in
      (λ i. first i ∷ rest i)
    where
      tails : x ≡ y → (z : X) → filter (same_rank z) xs ≡ filter (same_rank z) ys
      tails first z = by (same_rank z x) refl
        where
          other : same_rank z y ≡ same_rank z x
          other = ap (same_rank z) (sym first)

          by : (b : Bool) → same_rank z x ≡ b → filter (same_rank z) xs ≡ filter (same_rank z) ys
          by true e =
              let whole : x ∷ filter (same_rank z) xs ≡ y ∷ filter (same_rank z) ys =
              sym (keeps_one (same_rank z) x xs e) ∙ (same z ∙ keeps_one (same_rank z) y ys (other ∙ e)) in
              cons_tail whole
          by false e = sym (leaves (same_rank z) x xs e) ∙ (same z ∙ leaves (same_rank z) y ys (other ∙ e))

  -- What `by_rank` gives rises, and has the elements of each rank as they stood.
  inserted_all : (P : X → Type 0) (x : X) (ys : List X) → P x → All P ys → All P (inserted rank x ys)
  inserted_all P x [] here all = All-cons P x [] here all
  inserted_all P x (y ∷ ys) here all = by (nat_le (rank x) (rank y)) (inserted_all P x ys here (All-tail P y ys all))
    where
      by : (b : Bool) → All P (inserted rank x ys) → All P (cond b (x ∷ y ∷ ys) (y ∷ inserted rank x ys))
      by true rest = All-cons P x (y ∷ ys) here all
      by false rest = All-cons P y (inserted rank x ys) (All-head P y ys all) rest

  inserted_rising : (x : X) (ys : List X) → IsRising ys → IsRising (inserted rank x ys)
  inserted_rising x [] rising = (All-nil (λ y. rank x ≤ rank y), tt)
  inserted_rising x (y ∷ ys) rising = by (nat_le (rank x) (rank y)) refl (inserted_rising x ys rising.1)
    where
      by : (b : Bool) → nat_le (rank x) (rank y) ≡ b → IsRising (inserted rank x ys) → IsRising (cond b (x ∷ y ∷ ys) (y ∷ inserted rank x ys))
      by true e rest =
          let low = leb-true (rank x) (rank y) e in (
            All-cons (λ z. rank x ≤ rank z) y ys low
                (All-weaker (λ z. rank y ≤ rank z) (λ z. rank x ≤ rank z) (λ z l. omega (arith, l, low)) ys rising.0),
            rising,
          )
      by false e rest =
          let high = leb-false (rank x) (rank y) e in
          (inserted_all (λ z. rank y ≤ rank z) x ys (omega (arith, high)) rising.0, rest)

  pub by_rank_rising : (xs : List X) → IsRising (by_rank rank xs)
  by_rank_rising [] = tt
  by_rank_rising (x ∷ xs) = inserted_rising x (by_rank rank xs) (by_rank_rising xs)

  inserted_kept : (z x : X) (ys : List X) → filter (same_rank z) (inserted rank x ys) ≡ filter (same_rank z) (x ∷ ys)
  inserted_kept z x [] = refl
  inserted_kept z x (y ∷ ys) = by (nat_le (rank x) (rank y)) refl (inserted_kept z x ys)
    where
      turned : rank y < rank x → filter (same_rank z) (inserted rank x ys) ≡ filter (same_rank z) (x ∷ ys) → (b c : Bool) → same_rank z x ≡ b → same_rank z y ≡ c →
          filter (same_rank z) (y ∷ inserted rank x ys) ≡ filter (same_rank z) (x ∷ y ∷ ys)
      turned high rest true true e f =
          let m = eqb-true (rank z) (rank x) e in
          let n = eqb-true (rank z) (rank y) f in
          absurd (omega (arith, m, n, high))
      turned high rest true false e f =
          leaves (same_rank z) y (inserted rank x ys) f
          ∙ (rest ∙ (keeps_one (same_rank z) x ys e ∙ (ap (λ (l : List X). x ∷ l) (sym (leaves (same_rank z) y ys f)) ∙ sym (keeps_one (same_rank z) x (y ∷ ys) e))))
      turned high rest false c e f =
          ap (λ (l : List X). cond (same_rank z y) (y ∷ l) l) (rest ∙ leaves (same_rank z) x ys e) ∙ sym (leaves (same_rank z) x (y ∷ ys) e)

      by : (b : Bool) → nat_le (rank x) (rank y) ≡ b → filter (same_rank z) (inserted rank x ys) ≡ filter (same_rank z) (x ∷ ys) → filter (same_rank z) (cond b (x ∷ y ∷ ys) (y ∷ inserted rank x ys)) ≡ filter (same_rank z) (x ∷ y ∷ ys)
      by true e rest = refl
      by false e rest = turned (leb-false (rank x) (rank y) e) rest (same_rank z x) (same_rank z y) refl refl

  pub by_rank_kept : (z : X) (xs : List X) → filter (same_rank z) (by_rank rank xs) ≡ filter (same_rank z) xs
  by_rank_kept z [] = refl
  by_rank_kept z (x ∷ xs) =
      inserted_kept z x (by_rank rank xs) ∙ ap (λ (l : List X). cond (same_rank z x) (x ∷ l) l) (by_rank_kept z xs)

  -- a rising list with the elements of each rank as another one has them
  pub by_rank_is : (xs ys : List X) → IsRising ys → ((z : X) → filter (same_rank z) ys ≡ filter (same_rank z) xs) → ys ≡ by_rank rank xs
  by_rank_is xs ys rising same = rising_is ys (by_rank rank xs) rising (by_rank_rising xs) (λ z. same z ∙ sym (by_rank_kept z xs))

  -- as a stable sort gives it
  rising_from : (ys : List X) → IsNonDecreasingBy rank ys → IsRising ys
  rising_from [] up = tt
  rising_from (y ∷ ys) up = (
    (λ k d within. up 0 (suc k) d (omega arith) (omega (arith, within))),
    rising_from ys (λ i j d order within. up (suc i) (suc j) d (omega (arith, order)) (omega (arith, within))),
  )

  tie_is : (z x : X) → ties (λ a b. is_lt (nat_cmp (rank a) (rank b))) z x ≡ same_rank z x
  tie_is z x = by (same_rank z x) refl
    where
      by : (b : Bool) → same_rank z x ≡ b → ties (λ a b. is_lt (nat_cmp (rank a) (rank b))) z x ≡ b
      by true e = let m = eqb-true (rank z) (rank x) e in grind (arith, nat_tests)
      by false e = let m = eqb-false (rank z) (rank x) e in grind (arith, nat_tests)

  pub by_stable_sort : (xs ys : List X) → IsNonDecreasingBy rank ys → IsStableByKey rank nat_cmp xs ys → ys ≡ by_rank rank xs
  by_stable_sort xs ys up stable =
      let t : X → X → Bool = ties (λ a b. is_lt (nat_cmp (rank a) (rank b))) in
      by_rank_is xs ys (rising_from ys up)
      (λ z. sym (filter_agree (t z) (same_rank z) (tie_is z) ys) ∙ (stable z ∙ filter_agree (t z) (same_rank z) (tie_is z) xs))

  -- a list in which all are of one rank stays as it is
  pub one_rank : (n : ℕ) (xs : List X) → All (λ x. rank x ≡ n) xs → by_rank rank xs ≡ xs
  one_rank n xs all = sym (by_rank_is xs xs (rises xs all) (λ z. refl))
    where
      rises : (ys : List X) → All (λ y. rank y ≡ n) ys → IsRising ys
      rises [] every = tt
      rises (y ∷ ys) every =
          let here = All-head (λ z. rank z ≡ n) y ys every in
          let rest = All-tail (λ z. rank z ≡ n) y ys every in
          (All-weaker (λ z. rank z ≡ n) (λ z. rank y ≤ rank z) (λ z e. omega (arith, e, here)) ys rest, rises ys rest)

  -- the same elements
  pub Contains-by_rank : (xs : List X) (x : X) → Contains xs x → Contains (by_rank rank xs) x
  Contains-by_rank xs x c =
      (Contains-from_filter (same_rank x) (by_rank rank xs) x
      (subst (λ (l : List X). Contains l x) (sym (by_rank_kept x xs)) (Contains-filter (same_rank x) xs x c (of_its_own x)))).0

  pub Contains-from_by_rank : (xs : List X) (x : X) → Contains (by_rank rank xs) x → Contains xs x
  Contains-from_by_rank xs x c =
      (Contains-from_filter (same_rank x) xs x
      (subst (λ (l : List X). Contains l x) (by_rank_kept x xs) (Contains-filter (same_rank x) (by_rank rank xs) x c (of_its_own x)))).0

  inserted_moves : (x : X) (ys : List X) → IsPermutation (x ∷ ys) (inserted rank x ys)
  inserted_moves x [] = IsPermutation-refl (x ∷ [])
  inserted_moves x (y ∷ ys) = by (nat_le (rank x) (rank y)) (inserted_moves x ys)
    where
      by : (b : Bool) → IsPermutation (x ∷ ys) (inserted rank x ys) → IsPermutation (x ∷ y ∷ ys) (cond b (x ∷ y ∷ ys) (y ∷ inserted rank x ys))
      by true rest = IsPermutation-refl (x ∷ y ∷ ys)
      by false rest =
          IsPermutation-trans (x ∷ y ∷ ys) (y ∷ x ∷ ys) (y ∷ inserted rank x ys)
          (IsPermutation-swap (x ∷ y ∷ ys) (y ∷ x ∷ ys) 0 1 (omega arith) (omega arith) refl)
          (IsPermutation-cons y (x ∷ ys) (inserted rank x ys) rest)

  pub by_rank_moves : (xs : List X) → IsPermutation xs (by_rank rank xs)
  by_rank_moves [] = IsPermutation-refl []
  by_rank_moves (x ∷ xs) =
      IsPermutation-trans (x ∷ xs) (x ∷ by_rank rank xs) (inserted rank x (by_rank rank xs))
      (IsPermutation-cons x xs (by_rank rank xs) (by_rank_moves xs)) (inserted_moves x (by_rank rank xs))

  -- a filter may come before or after
  filter_rising : (t : X → Bool) (xs : List X) → IsRising xs → IsRising (filter t xs)
  filter_rising t [] rising = tt
  filter_rising t (x ∷ xs) rising = by (t x) (filter_rising t xs rising.1)
    where
      by : (b : Bool) → IsRising (filter t xs) → IsRising (cond b (x ∷ filter t xs) (filter t xs))
      by true rest = (
        All-from_contains (λ y. rank x ≤ rank y) (filter t xs)
            (λ y c. All-contains (λ z. rank x ≤ rank z) xs y rising.0 (Contains-from_filter t xs y c).0),
        rest,
      )
      by false rest = rest

  pub filter_by_rank : (t : X → Bool) (xs : List X) → filter t (by_rank rank xs) ≡ by_rank rank (filter t xs)
  filter_by_rank t xs =
      by_rank_is (filter t xs) (filter t (by_rank rank xs)) (filter_rising t (by_rank rank xs) (by_rank_rising xs))
      (λ z. filters_turned (same_rank z) t (by_rank rank xs) ∙ (ap (filter t) (by_rank_kept z xs) ∙ sym (filters_turned (same_rank z) t xs)))

-- and so may a map
module _ {X Y : Type 0} (rank : Y → ℕ) (f : X → Y) where
  map_inserted : (x : X) (ys : List X) → map f (inserted (λ z. rank (f z)) x ys) ≡ inserted rank (f x) (map f ys)
  map_inserted x [] = refl
  map_inserted x (y ∷ ys) = by (nat_le (rank (f x)) (rank (f y))) (map_inserted x ys)
    where
      by : (b : Bool) → map f (inserted (λ z. rank (f z)) x ys) ≡ inserted rank (f x) (map f ys) → map f (cond b (x ∷ y ∷ ys) (y ∷ inserted (λ z. rank (f z)) x ys)) ≡ cond b (f x ∷ f y ∷ map f ys) (f y ∷ inserted rank (f x) (map f ys))
      by true rest = refl
      by false rest = ap (λ (l : List Y). f y ∷ l) rest

  pub map_by_rank : (xs : List X) → map f (by_rank (λ x. rank (f x)) xs) ≡ by_rank rank (map f xs)
  map_by_rank [] = refl
  map_by_rank (x ∷ xs) = map_inserted x (by_rank (λ z. rank (f z)) xs) ∙ ap (inserted rank (f x)) (map_by_rank xs)
