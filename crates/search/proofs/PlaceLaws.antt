-- Places that wait in order, and the places of names.
use Rattle.std.proofs.Common.{◌≡◌, ℕ, ◌+◌, ◌<◌, ◌≤◌, ◌⊎◌, inl, inr, ◌==◌, ◌&&◌, ◌||◌, Bool, true, false, not, cond, List, [], ◌∷◌, ◌++◌, length, get_or, Option, Some, None, Less, Equal, Greater, refl, sym, ◌∙◌, ap, subst, arith}
use Rattle.std.specs.Prelude.{IfSome, IsTrue, nat_lt, option_map, unwrap_or, ⊤}
use Rattle.std.specs.BTreeSet.{Updates, contains}
use Rattle.std.specs.Cmp.{tied_then, unsigned_ties}
use Rattle.std.specs.Global.{Vec}
use Rattle.std.specs.HashMap.{HashMap}
use Rattle.std.specs.HashMap as bag
use Rattle.std.specs.List.{list_any, slice_get}
use Rattle.std.specs.Map.{lookup}
use Rattle.std.specs.Ordering.{is_eq, is_gt, nat_cmp, ordering_then}
use Rattle.std.specs.Str.{bytes_eq}
use Rattle.std.specs.declared.cmp.Ordering.{Ordering}
use Rattle.std.proofs.lemmas.Bool.{and_from, cases_lt, eq-eqb, eqb-true, false≢true, false_from_ne_true, le-ltb, ltb-false, ltb-true, or_left, or_right}
use Rattle.std.proofs.lemmas.List.Folds.{list_any-append}
use Rattle.std.proofs.lemmas.Option.{get_or_from_slice_get, slice_get_within}
use Rattle.std.proofs.lemmas.Slice.Eq.{bytes_eq-Decides}
use Rattle.elf_model.specs.declared.name.Name.{Name}
use Rattle.elf_model.proofs.LoadingBounds.{by_case}
use Rattle.elf_model.proofs.NamedEntries.{entries_updated}
use Rattle.search.specs.Places.{PlaceMap, has_place, is_place, is_waiting, place_order, places_in}
use Rattle.search.specs.declared.waiting_places.WaitingPlaces.{WaitingPlaces}

-- How two numbers compare.
is_less : (a b : ℕ) → nat_lt a b ≡ true → nat_cmp a b ≡ Less
is_less a b t = ap (λ (x : Bool). cond x Less (cond (a == b) Equal Greater)) t

is_equal : (a b : ℕ) → a ≡ b → nat_cmp a b ≡ Equal
is_equal a b e =
    ap (λ (x : Bool). cond x Less (cond (a == b) Equal Greater)) (le-ltb a b (omega (arith, e))) ∙ ap (λ (x : Bool). cond x Equal Greater) (eq-eqb a b e)

is_greater : (a b : ℕ) → nat_lt a b ≡ false → (a == b) ≡ false → nat_cmp a b ≡ Greater
is_greater a b t e = ap (λ (x : Bool). cond x Less (cond (a == b) Equal Greater)) t ∙ ap (λ (x : Bool). cond x Equal Greater) e

not_behind : (a b : ℕ) → is_gt (nat_cmp a b) ≡ false → a ≤ b
not_behind a b is =
    by_case (nat_lt a b) (λ t. let f = ltb-true a b t in omega (arith, f))
    (λ t. by_case (a == b) (λ e. let f = eqb-true a b e in omega (arith, f)) (λ e. absurd (false≢true (sym is ∙ ap is_gt (is_greater a b t e)))))

zero_first : (q : ℕ) → is_gt (nat_cmp 0 q) ≡ false
zero_first q = by_case (nat_lt 0 q) (λ t. ap is_gt (is_less 0 q t)) (λ t. ap is_gt (is_equal 0 q (let f = ltb-false 0 q t in omega (arith, f))))

-- a place isn't behind another
order_parts : (a b c d : ℕ) → is_gt (place_order (a, b) (c, d)) ≡ false → (a < c) ⊎ ((a ≡ c) × (b ≤ d))
order_parts a b c d is =
    by_case (nat_lt a c) (λ t. inl (ltb-true a c t))
    (λ t. by_case (a == c)
    (λ e. let f = eqb-true a c e in inr (f, not_behind b d (sym (ap (λ (o : Ordering). is_gt (ordering_then o (nat_cmp b d))) (is_equal a c f)) ∙ is)))
    (λ e. absurd (false≢true (sym is ∙ ap (λ (o : Ordering). is_gt (ordering_then o (nat_cmp b d))) (is_greater a c t e)))))

-- the first place of an archive isn't behind the places of this one and of later ones
from_first : (k j q : ℕ) → k ≤ j → is_gt (place_order (k, 0) (j, q)) ≡ false
from_first k j q low =
    by_case (nat_lt k j) (λ t. ap (λ (o : Ordering). is_gt (ordering_then o (nat_cmp 0 q))) (is_less k j t))
    (λ t. ap (λ (o : Ordering). is_gt (ordering_then o (nat_cmp 0 q))) (is_equal k j (let f = ltb-false k j t in omega (arith, f, low))) ∙ zero_first q)

-- The places that wait from an archive's first one on: of these, r begins with the first.
abbrev IsFrom : ℕ → ℕ × ℕ → Type 0
IsFrom k place = (is_gt (place_order (k, 0) place) ≡ false) × ⊤

pub none_from :
    (w : WaitingPlaces) (k : ℕ) (r : List (ℕ × ℕ)) → (r ≡ [] → (place : ℕ × ℕ) → IsFrom k place → contains place_order w.places place ≡ false) →
    r ≡ [] → (j q : ℕ) → k ≤ j → is_waiting w j q ≡ false
unfolding is_waiting
none_from w k r none empty j q low = none empty (j, q) (from_first k j q low, tt)

module _ (w : WaitingPlaces) (k : ℕ) (r : List (ℕ × ℕ)) (head : IfSome (slice_get r 0) (λ p. IsFrom k p × IsTrue (contains place_order w.places p))) (bound : (p : ℕ × ℕ) → IsFrom k p → IsTrue (contains place_order w.places p) → IfSome (slice_get r 0) (λ h. is_gt (place_order h p) ≡ false)) (place : ℕ × ℕ) (rest : List (ℕ × ℕ)) (first : r ≡ place ∷ rest) where
  head_from : is_gt (place_order (k, 0) place) ≡ false
  head_from = let h = rw first at head in h.0.0

  head_there : contains place_order w.places place ≡ true
  head_there = let h = rw first at head in h.1

  head_least : (j q : ℕ) → k ≤ j → is_waiting w j q ≡ true → is_gt (place_order place (j, q)) ≡ false
  unfolding is_waiting
  head_least j q low there = let h = rw first at bound in h (j, q) (from_first k j q low, tt) there

  pub archive_behind : k ≤ place.0
  archive_behind = by (order_parts k 0 place.0 place.1 head_from)
    where
      by : (k < place.0) ⊎ ((k ≡ place.0) × (0 ≤ place.1)) → k ≤ place.0
      by (inl less) = omega (arith, less)
      by (inr same) = let e = same.0 in omega (arith, e)

  pub none_between : (j q : ℕ) → k ≤ j → j < place.0 → is_waiting w j q ≡ false
  none_between j q low less = false_from_ne_true (is_waiting w j q) (λ there. by (order_parts place.0 place.1 j q (head_least j q low there)))
    where
      by : (place.0 < j) ⊎ ((place.0 ≡ j) × (place.1 ≤ q)) → ⊥
      by (inl more) = omega (arith, less, more)
      by (inr same) = let e = same.0 in omega (arith, less, e)

  pub entry_there : place.0 ≡ k → is_waiting w k place.1 ≡ true
  unfolding is_waiting
  entry_there same = subst (λ (j : ℕ). contains place_order w.places (j, place.1) ≡ true) same head_there

  pub entry_least : place.0 ≡ k → (q : ℕ) → is_waiting w k q ≡ true → place.1 ≤ q
  entry_least same q there = by (order_parts place.0 place.1 k q (head_least k q (omega arith) there))
    where
      by : (place.0 < k) ⊎ ((place.0 ≡ k) × (place.1 ≤ q)) → place.1 ≤ q
      by (inl less) = absurd (omega (arith, less, same))
      by (inr at) = at.1

  pub no_entry : (place.0 ≡ k → ⊥) → (q : ℕ) → is_waiting w k q ≡ false
  no_entry other q = let behind = archive_behind in none_between k q (omega arith) (omega (arith, behind, other))

-- A place more, and one less.
same_place : (a b c d : ℕ) → is_eq (place_order (a, b) (c, d)) ≡ (a == c && b == d)
same_place a b c d =
    sym (tied_then (nat_cmp a c) (nat_cmp b d))
    ∙ sym (ap (λ (t : Bool). t && b == d) (unsigned_ties a c) ∙ ap (λ (t : Bool). is_eq (nat_cmp a c) && t) (unsigned_ties b d))

pub added : (old new : WaitingPlaces) (place : ℕ × ℕ) → Updates place_order old.places new.places place true → (k q : ℕ) →
    is_waiting new k q ≡ (is_place k q place || is_waiting old k q)
unfolding is_waiting
added old new place updates k q =
    updates.0 (k, q) ∙ (ap (λ (t : Bool). cond t true (is_waiting old k q)) (same_place place.0 place.1 k q) ∙ by (is_place k q place) (is_waiting old k q))
  where
    by : (t there : Bool) → cond t true there ≡ (t || there)
    by true there = refl
    by false there = refl

pub removed : (old new : WaitingPlaces) (place : ℕ × ℕ) → Updates place_order old.places new.places place false → (k q : ℕ) →
    is_waiting new k q ≡ (not (is_place k q place) && is_waiting old k q)
unfolding is_waiting
removed old new place updates k q =
    updates.0 (k, q) ∙ (ap (λ (t : Bool). cond t false (is_waiting old k q)) (same_place place.0 place.1 k q) ∙ by (is_place k q place) (is_waiting old k q))
  where
    by : (t there : Bool) → cond t false there ≡ (not t && there)
    by true there = refl
    by false there = refl

-- what waited and is another place waits still
pub still_waiting : (old new : WaitingPlaces) (place : ℕ × ℕ) → ((k q : ℕ) → is_waiting new k q ≡ (not (is_place k q place) && is_waiting old k q)) →
    (k q : ℕ) → (is_place k q place ≡ true → ⊥) → is_waiting old k q ≡ true → is_waiting new k q ≡ true
still_waiting old new place rest k q other there =
    rest k q ∙ and_from (not (is_place k q place)) (is_waiting old k q) (ap not (false_from_ne_true (is_place k q place) other)) there

-- A place is added to those of a name.
pub place_added :
    {S : Type 0} (m : HashMap Name (Vec (ℕ × ℕ)) S) (written : Vec (ℕ × ℕ) → HashMap Name (Vec (ℕ × ℕ)) S) (name : Name) (place : ℕ × ℕ)
    (old new d : Vec (ℕ × ℕ)) (to : PlaceMap) → ((v : Vec (ℕ × ℕ)) → bag.Updates (λ x y. bytes_eq x.0.now y.0.now) m (written v) name (Some v)) →
    old ≡ unwrap_or (lookup (λ k. bytes_eq name.0.now k.0.now) m.entries) d → d.items ≡ [] → new.items ≡ old.items ++ place ∷ [] → to ≡ (written new).entries → (n : List ℕ) →
    places_in to n ≡ cond (bytes_eq name.0.now n) (places_in m.entries n ++ place ∷ []) (places_in m.entries n)
place_added m written name place old new d to updates was none is same n =
    ap (λ (l : PlaceMap). places_in l n) same
    ∙ (ap items_in (entries_updated m (written new) name (Some new) (updates new) n) ∙ by (bytes_eq name.0.now n) refl)
  where
    items_in : Option (Vec (ℕ × ℕ)) → List (ℕ × ℕ)
    items_in o = unwrap_or (option_map (λ v. v.items) o) []

    found : List ℕ → Option (Vec (ℕ × ℕ))
    found k = lookup (λ j. bytes_eq k j.0.now) m.entries

    had : (o : Option (Vec (ℕ × ℕ))) → (unwrap_or o d).items ≡ items_in o
    had None = none
    had (Some v) = refl

    by : (b : Bool) → bytes_eq name.0.now n ≡ b → items_in (cond b (Some new) (found n)) ≡ cond b (places_in m.entries n ++ place ∷ []) (places_in m.entries n)
    by true e =
        is ∙ ap (λ (l : List (ℕ × ℕ)). l ++ place ∷ [])
        (ap (λ (v : Vec (ℕ × ℕ)). v.items) was ∙ (had (found name.0.now) ∙ ap (places_in m.entries) ((bytes_eq-Decides name.0.now n).0 e)))
    by false e = refl

module _ (old new : PlaceMap) (name : List ℕ) (k q : ℕ) (next : (n : List ℕ) → places_in new n ≡ cond (bytes_eq name n) (places_in old n ++ (k, q) ∷ []) (places_in old n)) where
  grown : (n : List ℕ) → bytes_eq name n ≡ true → places_in new n ≡ places_in old n ++ (k, q) ∷ []
  grown n t = next n ∙ ap (λ (b : Bool). cond b (places_in old n ++ (k, q) ∷ []) (places_in old n)) t

  same : (n : List ℕ) → bytes_eq name n ≡ false → places_in new n ≡ places_in old n
  same n t = next n ∙ ap (λ (b : Bool). cond b (places_in old n ++ (k, q) ∷ []) (places_in old n)) t

  -- the places of names stay, and the name has the new one
  pub places_stay : (n : List ℕ) (j p : ℕ) → has_place old n j p ≡ true → has_place new n j p ≡ true
  places_stay n j p there =
      by_case (bytes_eq name n)
      (λ t. ap (list_any (is_place j p)) (grown n t) ∙ (list_any-append (is_place j p) (places_in old n) ((k, q) ∷ []) ∙ or_left _ _ there))
      (λ t. ap (list_any (is_place j p)) (same n t) ∙ there)

  pub has_new : (n : List ℕ) → name ≡ n → has_place new n k q ≡ true
  has_new n is =
      ap (list_any (is_place k q)) (grown n ((bytes_eq-Decides name n).1 is))
      ∙ (list_any-append (is_place k q) (places_in old n) ((k, q) ∷ [])
      ∙ or_right _ _ (or_left _ false (and_from (k == k) (q == q) (eq-eqb k k refl) (eq-eqb q q refl))))

-- What holds of a list's first elements, by their numbers, and of one more.
pub one_more : {X : Type 0} (P Q : ℕ → X → Type 0) (xs : List X) (i : ℕ) (x : X) → x ≡ get_or xs i x → ((k : ℕ) (y : X) → P k y → Q k y) → Q i x →
    ((k : ℕ) (y : X) → k < i → slice_get xs k ≡ Some y → P k y) → (k : ℕ) (y : X) → k < i + 1 → slice_get xs k ≡ Some y → Q k y
one_more P Q xs i x is on new before k y within at = by (cases_lt k i)
  where
    by : (k < i) ⊎ (i ≤ k) → Q k y
    by (inl low) = on k y (before k y low at)
    by (inr high) =
        let here : i ≡ k = omega (arith, within, high) in
        subst (λ (j : ℕ). Q j y) here
        (subst (Q i) (is ∙ get_or_from_slice_get xs i y x (subst (λ (j : ℕ). slice_get xs j ≡ Some y) (sym here) at)) new)

pub all_of : {X : Type 0} (P : ℕ → X → Type 0) (xs : List X) (n : ℕ) → length xs ≤ n → ((k : ℕ) (y : X) → k < n → slice_get xs k ≡ Some y → P k y) →
    (k : ℕ) (y : X) → slice_get xs k ≡ Some y → P k y
all_of P xs n past before k y at = let m = slice_get_within xs k y at in before k y (omega (arith, m, past)) at
