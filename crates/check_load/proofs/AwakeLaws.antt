-- Entries that wake and sleep, and the first that is awake.
use Rattle.std.proofs.Common.{◌≡◌, ℕ, ◌<◌, ◌≤◌, ◌⊎◌, inl, inr, ◌==◌, ◌&&◌, ◌||◌, Bool, true, false, not, cond, List, [], ◌∷◌, Less, Equal, Greater, refl, sym, ◌∙◌, ap, subst, arith}
use Rattle.std.specs.Prelude.{IfSome, IsTrue, nat_lt, ⊤}
use Rattle.std.specs.BTreeSet.{Updates, contains}
use Rattle.std.specs.Cmp.{tied_then, unsigned_ties}
use Rattle.std.specs.List.{slice_get}
use Rattle.std.specs.Ordering.{is_eq, is_gt, nat_cmp, ordering_then}
use Rattle.std.specs.declared.cmp.Ordering.{Ordering}
use Rattle.std.proofs.lemmas.Bool.{eq-eqb, eqb-true, false≢true, false_from_ne_true, le-ltb, ltb-false, ltb-true}
use Rattle.elf_model.proofs.LoadingBounds.{by_case}
use Rattle.check_load.specs.Awake.{is_awake, is_place, place_key}
use Rattle.check_load.specs.declared.awake_entries.Awake.{Awake}
use Rattle.check_load.proofs.TakenLaws.{or_of}

-- How two places compare.
less : (a b : ℕ) → nat_lt a b ≡ true → nat_cmp a b ≡ Less
less a b t = ap (λ (x : Bool). cond x Less (cond (a == b) Equal Greater)) t

tied : (a b : ℕ) → a ≡ b → nat_cmp a b ≡ Equal
tied a b e =
    ap (λ (x : Bool). cond x Less (cond (a == b) Equal Greater)) (le-ltb a b (omega (arith, e))) ∙ ap (λ (x : Bool). cond x Equal Greater) (eq-eqb a b e)

more : (a b : ℕ) → nat_lt a b ≡ false → (a == b) ≡ false → nat_cmp a b ≡ Greater
more a b t e = ap (λ (x : Bool). cond x Less (cond (a == b) Equal Greater)) t ∙ ap (λ (x : Bool). cond x Equal Greater) e

ends_below : (a b : ℕ) → is_gt (nat_cmp a b) ≡ false → a ≤ b
ends_below a b is =
    by_case (nat_lt a b) (λ t. let f = ltb-true a b t in omega (arith, f))
    (λ t. by_case (a == b) (λ e. let f = eqb-true a b e in omega (arith, f)) (λ e. absurd (false≢true (sym is ∙ ap is_gt (more a b t e)))))

not_above : (a b : ℕ) → a ≤ b → is_gt (nat_cmp a b) ≡ false
not_above a b low =
    by_case (nat_lt a b) (λ t. ap is_gt (less a b t)) (λ t. ap is_gt (tied a b (let f = ltb-false a b t in omega (arith, f, low))))

-- a place is at or before another
key_parts : (a b c d : ℕ) → is_gt (place_key (a, b) (c, d)) ≡ false → (a < c) ⊎ ((a ≡ c) × (b ≤ d))
key_parts a b c d is =
    by_case (nat_lt a c) (λ t. inl (ltb-true a c t))
    (λ t. by_case (a == c)
    (λ e. let f = eqb-true a c e in inr (f, ends_below b d (sym (ap (λ (o : Ordering). is_gt (ordering_then o (nat_cmp b d))) (tied a c f)) ∙ is)))
    (λ e. absurd (false≢true (sym is ∙ ap (λ (o : Ordering). is_gt (ordering_then o (nat_cmp b d))) (more a c t e)))))

from_first : (item q : ℕ) → is_gt (place_key (item, 0) (item, q)) ≡ false
from_first item q = ap (λ (o : Ordering). is_gt (ordering_then o (nat_cmp 0 q))) (tied item item refl) ∙ not_above 0 q (omega arith)

from_later : (item j q : ℕ) → item ≤ j → is_gt (place_key (item, 0) (j, q)) ≡ false
from_later item j q low =
    by_case (nat_lt item j) (λ t. ap (λ (o : Ordering). is_gt (ordering_then o (nat_cmp 0 q))) (less item j t))
    (λ t. let f = ltb-false item j t in let same : item ≡ j = omega (arith, f, low) in ap (λ (o : Ordering). is_gt (ordering_then o (nat_cmp 0 q))) (tied item j same) ∙ not_above 0 q (omega arith))

-- The places that are awake from an item's first on, where r are these: the first is one of them and none is before it.
abbrev IsFrom : ℕ → ℕ × ℕ → Type 0
IsFrom item k = (is_gt (place_key (item, 0) k) ≡ false) × ⊤

abbrev pub IsHead : Awake → ℕ → List (ℕ × ℕ) → Type 0
IsHead a item r = IfSome (slice_get r 0) (λ k. IsFrom item k × IsTrue (contains place_key a.places k))

abbrev pub IsLeast : Awake → ℕ → List (ℕ × ℕ) → Type 0
IsLeast a item r = (k : ℕ × ℕ) → IsFrom item k → IsTrue (contains place_key a.places k) → IfSome (slice_get r 0) (λ h. is_gt (place_key h k) ≡ false)

pub none_from :
    (a : Awake) (item : ℕ) (r : List (ℕ × ℕ)) → (r ≡ [] → (k : ℕ × ℕ) → IsFrom item k → contains place_key a.places k ≡ false) →
    r ≡ [] → (q : ℕ) → is_awake a item q ≡ false
unfolding is_awake
none_from a item r none empty q = none empty (item, q) (from_first item q, tt)

pub none_later :
    (a : Awake) (item : ℕ) (r : List (ℕ × ℕ)) → (r ≡ [] → (k : ℕ × ℕ) → IsFrom item k → contains place_key a.places k ≡ false) →
    r ≡ [] → (j q : ℕ) → item ≤ j → is_awake a j q ≡ false
unfolding is_awake
none_later a item r none empty j q low = none empty (j, q) (from_later item j q low, tt)

module _ (a : Awake) (item : ℕ) (r : List (ℕ × ℕ)) (head : IsHead a item r) (least : IsLeast a item r) where
  asleep_if : (q : ℕ) → (is_awake a item q ≡ true → ⊥) → is_awake a item q ≡ false
  asleep_if q never = false_from_ne_true (is_awake a item q) never

  module _ (place : ℕ × ℕ) (rest : List (ℕ × ℕ)) (first : r ≡ place ∷ rest) where
    head_in : is_gt (place_key (item, 0) place) ≡ false
    head_in = let h = rw first at head in h.0.0

    pub head_there : contains place_key a.places place ≡ true
    head_there = let h = rw first at head in h.1

    head_least : (q : ℕ) → is_awake a item q ≡ true → is_gt (place_key place (item, q)) ≡ false
    unfolding is_awake
    head_least q there = let h = rw first at least in h (item, q) (from_first item q, tt) there

    later_least : (j q : ℕ) → item ≤ j → is_awake a j q ≡ true → is_gt (place_key place (j, q)) ≡ false
    unfolding is_awake
    later_least j q low there = let h = rw first at least in h (j, q) (from_later item j q low, tt) there

    -- no entry is awake between the item and the first one's
    pub none_between : (j q : ℕ) → item ≤ j → j < place.0 → is_awake a j q ≡ false
    none_between j q low high = false_from_ne_true (is_awake a j q) (λ there. by (key_parts place.0 place.1 j q (later_least j q low there)))
      where
        by : (place.0 < j) ⊎ ((place.0 ≡ j) × (place.1 ≤ q)) → ⊥
        by (inl past) = omega (arith, past, high)
        by (inr at) = let e = at.0 in omega (arith, e, high)

    pub first_there : place.0 ≡ item → is_awake a item place.1 ≡ true
    unfolding is_awake
    first_there same = subst (λ (k : ℕ). contains place_key a.places (k, place.1) ≡ true) same head_there

    pub first_least : place.0 ≡ item → (q : ℕ) → is_awake a item q ≡ true → place.1 ≤ q
    first_least same q there = by (key_parts place.0 place.1 item q (head_least q there))
      where
        by : (place.0 < item) ⊎ ((place.0 ≡ item) × (place.1 ≤ q)) → place.1 ≤ q
        by (inl low) = absurd (omega (arith, low, same))
        by (inr at) = at.1

    pub none_first : (place.0 ≡ item → ⊥) → (q : ℕ) → is_awake a item q ≡ false
    none_first other q = asleep_if q (λ there. by (key_parts place.0 place.1 item q (head_least q there)) (key_parts item 0 place.0 place.1 head_in))
      where
        by : (place.0 < item) ⊎ ((place.0 ≡ item) × (place.1 ≤ q)) → (item < place.0) ⊎ ((item ≡ place.0) × (0 ≤ place.1)) → ⊥
        by (inr at) late = other at.0
        by (inl low) (inl late) = omega (arith, low, late)
        by (inl low) (inr at) = other (sym at.0)

-- An entry more, and one less: two places compare equal where both numbers are.
tie : (a b c d : ℕ) → is_eq (place_key (a, b) (c, d)) ≡ (a == c && b == d)
tie a b c d =
    sym (tied_then (nat_cmp a c) (nat_cmp b d))
    ∙ sym (ap (λ (t : Bool). t && b == d) (unsigned_ties a c) ∙ ap (λ (t : Bool). is_eq (nat_cmp a c) && t) (unsigned_ties b d))

pub woken : (old new : Awake) (place : ℕ × ℕ) → Updates place_key old.places new.places place true → (i q : ℕ) →
    is_awake new i q ≡ (is_place i q place || is_awake old i q)
unfolding is_awake
woken old new place updates i q =
    updates.0 (i, q)
    ∙ (ap (λ (t : Bool). cond t true (is_awake old i q)) (tie place.0 place.1 i q) ∙ or_of (is_place i q place) (is_awake old i q))

but_of : (t old : Bool) → cond t false old ≡ (not t && old)
but_of true old = refl
but_of false old = refl

pub lulled : (old new : Awake) (place : ℕ × ℕ) → Updates place_key old.places new.places place false → (i q : ℕ) →
    is_awake new i q ≡ (not (is_place i q place) && is_awake old i q)
unfolding is_awake
lulled old new place updates i q =
    updates.0 (i, q)
    ∙ (ap (λ (t : Bool). cond t false (is_awake old i q)) (tie place.0 place.1 i q) ∙ but_of (is_place i q place) (is_awake old i q))
