-- Names that are alike up to an offset are sorted by what is behind it: by the numbers of the next bytes, and those of one number further.
use Rattle.std.proofs.Common.{◌≡◌, ◌∙◌, ◌≢◌, ◌⊎◌, inl, inr, ℕ, zero, suc, ◌+◌, ◌-◌, ◌<◌, ◌≤◌, Bool, true, false, true≢false, List, [], ◌∷◌, ◌++◌, append_assoc, drop, drop_at, get_or, length, ltb, refl, sym, take, take_at, ap, subst, arith, set}
use Rattle.std.specs.Prelude.{All, AllPairs, IsPermutation}
use Rattle.std.specs.List.Sorted.{IsNonDecreasingBy, IsSortedBy, IsSortedByKey}
use Rattle.std.specs.Cmp.Lexicographic.{slice_cmp}
use Rattle.std.specs.Ordering.{is_lt, nat_cmp, ordering_reverse, ordering_then}
use Rattle.std.specs.declared.cmp.Ordering.{Ordering}
use Rattle.std.specs.declared.cmp.Ordering.TheVariants.{Equal, Greater, Less}
use Rattle.std.specs.List.{range_with_len}
use Rattle.std.specs.Borrow.{Bor}
use Rattle.std.specs.Cmp.{IsStrictWeakOrder}
use Rattle.std.specs.Fn.{Called, ComparesAs, Mut}
use Rattle.std.proofs.Math.Seq.{map-set_same}
use Rattle.std.proofs.lemmas.Bool.{ltb-false, ltb-true}
use Rattle.std.proofs.lemmas.Cmp.{nat_list_cmp_total, tied_itself}
use Rattle.std.proofs.lemmas.Fn.{always_returns_same}
use Rattle.std.proofs.lemmas.List.{append-nil, drop-drop, drop_all, get_or-append-add, get_or-drop, get_or_default, length-append, length-drop, map-append, take_all, take_more_set}
use Rattle.std.proofs.lemmas.List.Elements.{All-append, All-cons, All-map, All-nil, All-weaker}
use Rattle.std.proofs.lemmas.List.Sorted.{All-permutation, IsPermutation-append_left, IsPermutation-append_right, IsPermutation-map, IsPermutation-trans, ranks_by}
use Rattle.std.proofs.lemmas.Map.Lookups.{exact_bytes}
use Rattle.elf_model.proofs.Listed.{All-parts, All-unmap}
use Rattle.elf_model.proofs.Pairs.{AllPairs-append, AllPairs-nil}
use Rattle.linker.specs.NameKeys.{AreAlike, IsInOrder, IsKeyed, IsNotAfter, IsOrderBehind, IsOrderOf, IsSortedRun, behind_of, held_names, key_at, name_key, name_of, positions, run_in}
use Rattle.linker.specs.declared.name_order.Keyed.{Keyed}
use Rattle.linker.specs.declared.name_order.Names.{Names}
use Rattle.linker.proofs.NameKeyLaws.{is_equal, is_less, keys_order, range_more}

-- the same names in another order are alike too
pub alike_moved : (n : Names) (offset : ℕ) (ps qs : List ℕ) → IsPermutation ps qs → AreAlike n offset ps → AreAlike n offset qs
alike_moved n offset ps qs moved alike =
    All-permutation (λ i. All (IsOrderBehind n offset i) qs) ps qs moved
    (All-weaker (λ i. All (IsOrderBehind n offset i) ps) (λ i. All (IsOrderBehind n offset i) qs) (λ i all. All-permutation (IsOrderBehind n offset i) ps qs moved all) ps alike)

pub alike_two : (n : Names) (offset : ℕ) (ks : List Keyed) → AreAlike n offset (positions ks) → All (λ j. All (λ k. IsOrderBehind n offset j.position k.position) ks) ks
alike_two n offset ks alike =
    All-weaker (λ (j : Keyed). All (IsOrderBehind n offset j.position) (positions ks)) (λ (j : Keyed). All (λ k. IsOrderBehind n offset j.position k.position) ks)
    (λ j all. All-unmap (IsOrderBehind n offset j.position) (λ (k : Keyed). k.position) ks all) ks
    (All-unmap (λ i. All (IsOrderBehind n offset i) (positions ks)) (λ (k : Keyed). k.position) ks alike)

-- what a sort by a closure ensures that compares what is behind an offset
pub sorted_behind :
    {F : Type 0} {g : Mut F (Bor Keyed × (Bor Keyed × Unit {0})) Ordering} {f : F} (n : Names) (offset : ℕ) (ks : List Keyed) →
    ((lt : Keyed → Keyed → Bool) → IsStrictWeakOrder lt → ComparesAs g lt f → IsSortedBy lt ks) →
    ((a : Bor Keyed × (Bor Keyed × Unit {0})) (r : Ordering) (f' : F) → Called g f a r f' →
    (r ≡ slice_cmp nat_cmp (behind_of n offset a.0.now) (behind_of n offset a.1.0.now)) × (f' ≡ f)) →
    IsSortedByKey (behind_of n offset) (slice_cmp nat_cmp) ks
sorted_behind {g = g} {f = f} n offset ks up calls =
    up (λ x y. is_lt (slice_cmp nat_cmp (behind_of n offset x) (behind_of n offset y))) (ranks_by nat_list_cmp_total (behind_of n offset))
    (always_returns_same g (λ a r. is_lt r ≡ is_lt (slice_cmp nat_cmp (behind_of n offset a.0.now) (behind_of n offset a.1.0.now))) f
    (λ a r f' k. (ap is_lt (calls a r f' k).0, (calls a r f' k).1)))

-- the order of byte lists
not_before : (a b : List ℕ) → slice_cmp nat_cmp a b ≡ Less → is_lt (slice_cmp nat_cmp b a) ≡ false
not_before a b less = ap is_lt (nat_list_cmp_total.antisymm b a ∙ ap ordering_reverse less)

not_itself : (a b : List ℕ) → a ≡ b → is_lt (slice_cmp nat_cmp b a) ≡ false
not_itself a b same = ap is_lt (ap (λ (x : List ℕ). slice_cmp nat_cmp b x) same ∙ tied_itself nat_list_cmp_total b)

less_or_same : (a b : List ℕ) → is_lt (slice_cmp nat_cmp b a) ≡ false → (slice_cmp nat_cmp a b ≡ Less) ⊎ (a ≡ b)
less_or_same a b not = by (slice_cmp nat_cmp a b) refl
  where
    by : (o : Ordering) → slice_cmp nat_cmp a b ≡ o → (slice_cmp nat_cmp a b ≡ Less) ⊎ (a ≡ b)
    by Less e = inl e
    by Equal e = inr (exact_bytes a b e)
    by Greater e = absurd (true≢false (sym (ap is_lt (nat_list_cmp_total.antisymm b a ∙ ap ordering_reverse e)) ∙ not))

not_after_trans : (a b c : List ℕ) → is_lt (slice_cmp nat_cmp b a) ≡ false → is_lt (slice_cmp nat_cmp c b) ≡ false → is_lt (slice_cmp nat_cmp c a) ≡ false
not_after_trans a b c p q = by (less_or_same a b p) (less_or_same b c q)
  where
    by : (slice_cmp nat_cmp a b ≡ Less) ⊎ (a ≡ b) → (slice_cmp nat_cmp b c ≡ Less) ⊎ (b ≡ c) → is_lt (slice_cmp nat_cmp c a) ≡ false
    by (inl e) (inl f) = not_before a c (nat_list_cmp_total.trans a b c e f)
    by (inl e) (inr g) = subst (λ (x : List ℕ). is_lt (slice_cmp nat_cmp x a) ≡ false) g p
    by (inr g) f = subst (λ (x : List ℕ). is_lt (slice_cmp nat_cmp c x) ≡ false) (sym g) q

-- of sorted ones none is after a later one
sorted_pairs :
    (f : Keyed → List ℕ) (ks : List Keyed) → IsSortedByKey f (slice_cmp nat_cmp) ks → (i s : ℕ) (d : Keyed) → i + (s + 1) < length ks →
    is_lt (slice_cmp nat_cmp (f (get_or ks (i + (s + 1)) d)) (f (get_or ks i d))) ≡ false
sorted_pairs f ks up i zero d within = up i d (omega arith) within
sorted_pairs f ks up i (suc s) d within =
    let last : i + (s + 1) + 1 ≡ i + (suc s + 1) = omega arith in
    let step = up (i + (s + 1)) d (omega arith) (omega (arith, within)) in
    not_after_trans (f (get_or ks i d)) (f (get_or ks (i + (s + 1)) d)) (f (get_or ks (i + (suc s + 1)) d)) (sorted_pairs f ks up i s d (omega (arith, within)))
    (subst (λ m. is_lt (slice_cmp nat_cmp (f (get_or ks m d)) (f (get_or ks (i + (s + 1)) d))) ≡ false) last step)

all_pairs : (f : Keyed → List ℕ) (ks : List Keyed) → IsSortedByKey f (slice_cmp nat_cmp) ks → AllPairs (λ j k. is_lt (slice_cmp nat_cmp (f k) (f j)) ≡ false) ks
all_pairs f ks up i j d low high =
    let place : i + ((j - i - 1) + 1) ≡ j = omega (arith, low) in
    subst (λ m. is_lt (slice_cmp nat_cmp (f (get_or ks m d)) (f (get_or ks i d))) ≡ false) place (sorted_pairs f ks up i (j - i - 1) d (omega (arith, place, high)))

pub few_sorted :
    (n : Names) (offset : ℕ) (ks js : List Keyed) → AreAlike n offset (positions ks) → IsPermutation ks js →
    IsSortedByKey (behind_of n offset) (slice_cmp nat_cmp) js → IsSortedRun n ks js
few_sorted n offset ks js alike moved up =
    let places = IsPermutation-map (λ (k : Keyed). k.position) ks js moved in
    let two = alike_two n offset js (alike_moved n offset (positions ks) (positions js) places alike) in
    let pairs = all_pairs (behind_of n offset) js up in
    record {
      moved = places;
      rising = λ i j d low high. sym (ap is_lt (two j d high i d (omega (arith, low, high)))) ∙ pairs i j d low high;
    }

-- numbers and the order of names
module _ (n : Names) (offset : ℕ) (a b : Keyed) (ka : IsKeyed n offset a) (kb : IsKeyed n offset b) (alike : IsOrderBehind n offset a.position b.position) where
  abbrev xs : List ℕ
  xs = behind_of n offset a

  abbrev ys : List ℕ
  ys = behind_of n offset b

  by_keys : ordering_then (nat_cmp a.key b.key) (slice_cmp nat_cmp (drop 7 xs) (drop 7 ys)) ≡ slice_cmp nat_cmp xs ys
  by_keys =
      ap (λ (k : ℕ). ordering_then (nat_cmp k b.key) (slice_cmp nat_cmp (drop 7 xs) (drop 7 ys))) ka.key
      ∙ (ap (λ (k : ℕ). ordering_then (nat_cmp (name_key xs) k) (slice_cmp nat_cmp (drop 7 xs) (drop 7 ys))) kb.key
      ∙ keys_order 7 xs ys (drop 7 xs) (drop 7 ys) ka.bytes kb.bytes refl)

  pub less_key : a.key < b.key → IsNotAfter n a.position b.position
  less_key less =
      not_before (name_of n a.position) (name_of n b.position)
      (sym alike ∙ (sym by_keys ∙ ap (λ (o : Ordering). ordering_then o (slice_cmp nat_cmp (drop 7 xs) (drop 7 ys))) (is_less a.key b.key less)))

  pub same_key : a.key ≡ b.key → slice_cmp nat_cmp (drop 7 xs) (drop 7 ys) ≡ slice_cmp nat_cmp (name_of n a.position) (name_of n b.position)
  same_key same =
      sym (ap (λ (o : Ordering). ordering_then o (slice_cmp nat_cmp (drop 7 xs) (drop 7 ys))) (is_equal a.key b.key same)) ∙ (by_keys ∙ alike)

abbrev none : Keyed
none = record { key = 0; position = 0 }

-- some are in order, and the others, none of which is before them, are numbered and in the order of their numbers
pub record Done (n : Names) (offset : ℕ) (old front rest : List Keyed) : Type 0 where
  pub moved : IsPermutation (positions old) (positions (front ++ rest))
  pub rising : IsInOrder n front
  pub before : All (λ j. All (λ k. IsNotAfter n j.position k.position) rest) front
  pub keyed : All (IsKeyed n offset) rest
  pub ordered : IsNonDecreasingBy (λ k. k.key) rest

pub all_left :
    (n : Names) (offset : ℕ) (old numbered js : List Keyed) → positions numbered ≡ positions old → All (IsKeyed n offset) numbered → IsPermutation numbered js →
    IsNonDecreasingBy (λ k. k.key) js → Done n offset old [] js
all_left n offset old numbered js same keyed moved up = record {
  moved = subst (λ ps. IsPermutation ps (positions js)) same (IsPermutation-map (λ (k : Keyed). k.position) numbered js moved);
  rising = AllPairs-nil (λ (j k : Keyed). IsNotAfter n j.position k.position);
  before = All-nil (λ (j : Keyed). All (λ k. IsNotAfter n j.position k.position) js);
  keyed = All-permutation (IsKeyed n offset) numbered js moved keyed;
  ordered = up;
}

pub none_left : (n : Names) (offset : ℕ) (old front : List Keyed) → Done n offset old front [] → IsSortedRun n old front
none_left n offset old front done = record {
  moved = subst (λ ks. IsPermutation (positions old) (positions ks)) (append-nil front) done.moved;
  rising = done.rising;
}

-- those that are alike at an offset are so further on, where they have one number
pub alike_further :
    (n : Names) (offset : ℕ) (sub : List Keyed) (x : ℕ) → AreAlike n offset (positions sub) → All (IsKeyed n offset) sub → All (λ k. k.key ≡ x) sub →
    AreAlike n (offset + 7) (positions sub)
alike_further n offset sub x alike keyed same =
    let two = alike_two n offset sub alike in
    All-map (λ i. All (IsOrderBehind n (offset + 7) i) (positions sub)) (λ (k : Keyed). k.position) sub
    (λ i d low. All-map (IsOrderBehind n (offset + 7) (get_or sub i d).position) (λ (k : Keyed). k.position) sub
    (λ j e high.
    let a : Keyed = get_or sub i d in
    let b : Keyed = get_or sub j e in
    ap (λ (us : List ℕ). slice_cmp nat_cmp us (drop (offset + 7) (name_of n b.position))) (sym (drop-drop 7 offset (name_of n a.position)))
    ∙ (ap (λ (vs : List ℕ). slice_cmp nat_cmp (drop 7 (drop offset (name_of n a.position))) vs) (sym (drop-drop 7 offset (name_of n b.position)))
    ∙ same_key n offset a b (keyed i d low) (keyed j e high) (two i d low j e high) (same i d low ∙ sym (same j e high)))))

behind_rises : (xs ys : List Keyed) → IsNonDecreasingBy (λ k. k.key) (xs ++ ys) → IsNonDecreasingBy (λ k. k.key) ys
behind_rises xs ys up i j d le low =
    let long = length-append xs ys in
    subst (λ (a : Keyed). a.key ≤ (get_or ys j d).key) (get_or-append-add xs ys i d)
    (subst (λ (b : Keyed). (get_or (xs ++ ys) (length xs + i) d).key ≤ b.key) (get_or-append-add xs ys j d)
    (up (length xs + i) (length xs + j) d (omega (arith, le)) (omega (arith, low, long))))

-- one more run is in order
pub one_more :
    (n : Names) (offset : ℕ) (old front sub back mid : List Keyed) (x : ℕ) → AreAlike n offset (positions old) → Done n offset old front (sub ++ back) →
    All (λ k. k.key ≡ x) sub → All (λ k. x < k.key) back → IsSortedRun n sub mid → Done n offset old (front ++ mid) back
one_more n offset old front sub back mid x alike done same above sorted =
    let place : Keyed → ℕ = λ k. k.position in
    let keyed = All-parts (IsKeyed n offset) sub back done.keyed in
    let now = alike_two n offset (front ++ (sub ++ back)) (alike_moved n offset (positions old) (positions (front ++ (sub ++ back))) done.moved alike) in
    let rests : All (λ j. All (λ k. IsOrderBehind n offset j.position k.position) (front ++ (sub ++ back))) (sub ++ back) =
    (All-parts (λ (j : Keyed). All (λ k. IsOrderBehind n offset j.position k.position) (front ++ (sub ++ back))) front (sub ++ back) now).1 in
    let subs : All (λ j. All (λ k. IsOrderBehind n offset j.position k.position) (front ++ (sub ++ back))) sub =
    (All-parts (λ (j : Keyed). All (λ k. IsOrderBehind n offset j.position k.position) (front ++ (sub ++ back))) sub back rests).0 in
    let cross : (j : Keyed) → All (λ k. IsOrderBehind n offset j.position k.position) (front ++ (sub ++ back)) → All (λ k. IsOrderBehind n offset j.position k.position) back = λ j all.
    let p : Keyed → Type 0 = λ k. IsOrderBehind n offset j.position k.position in
    (All-parts p sub back (All-parts p front (sub ++ back) all).1).1 in
    let sub_before : All (λ j. All (λ k. IsNotAfter n j.position k.position) back) sub = λ i d low j e high.
    less_key n offset (get_or sub i d) (get_or back j e) (keyed.0 i d low) (keyed.1 j e high) (cross (get_or sub i d) (subs i d low) j e high)
    (let s = same i d low in let t = above j e high in omega (arith, s, t)) in
    let mid_before : All (λ j. All (λ k. IsNotAfter n j.position k.position) back) mid =
    All-unmap (λ i. All (λ (k : Keyed). IsNotAfter n i k.position) back) place mid
    (All-permutation (λ i. All (λ (k : Keyed). IsNotAfter n i k.position) back) (positions sub) (positions mid) sorted.moved
    (All-map (λ i. All (λ (k : Keyed). IsNotAfter n i k.position) back) place sub sub_before)) in
    let split : (j : Keyed) → All (λ k. IsNotAfter n j.position k.position) (sub ++ back) → All (λ k. IsNotAfter n j.position k.position) sub × All (λ k. IsNotAfter n j.position k.position) back = λ j all.
    All-parts (λ (k : Keyed). IsNotAfter n j.position k.position) sub back all in
    let front_mid : All (λ j. All (λ k. IsNotAfter n j.position k.position) mid) front =
    All-weaker (λ (j : Keyed). All (λ k. IsNotAfter n j.position k.position) (sub ++ back)) (λ (j : Keyed). All (λ k. IsNotAfter n j.position k.position) mid)
    (λ j all. All-unmap (IsNotAfter n j.position) place mid
    (All-permutation (IsNotAfter n j.position) (positions sub) (positions mid) sorted.moved (All-map (IsNotAfter n j.position) place sub (split j all).0))) front done.before in
    let front_back : All (λ j. All (λ k. IsNotAfter n j.position k.position) back) front =
    All-weaker (λ (j : Keyed). All (λ k. IsNotAfter n j.position k.position) (sub ++ back)) (λ (j : Keyed). All (λ k. IsNotAfter n j.position k.position) back)
    (λ j all. (split j all).1) front done.before in
    let parts : (m : List Keyed) → positions (front ++ (m ++ back)) ≡ positions front ++ (positions m ++ positions back) = λ m.
    map-append place front (m ++ back) ∙ ap (λ (l : List ℕ). positions front ++ l) (map-append place m back) in
    record {
      moved =
          IsPermutation-trans (positions old) (positions (front ++ (sub ++ back))) (positions ((front ++ mid) ++ back)) done.moved
          (subst (λ ks. IsPermutation (positions (front ++ (sub ++ back))) (positions ks)) (sym (append_assoc front mid back))
          (subst (λ ps. IsPermutation ps (positions (front ++ (mid ++ back)))) (sym (parts sub))
          (subst (IsPermutation (positions front ++ (positions sub ++ positions back))) (sym (parts mid))
          (IsPermutation-append_right (positions front) (positions sub ++ positions back) (positions mid ++ positions back)
          (IsPermutation-append_left (positions back) (positions sub) (positions mid) sorted.moved)))));
      rising = AllPairs-append (λ (j k : Keyed). IsNotAfter n j.position k.position) front mid done.rising sorted.rising front_mid;
      before = All-append (λ (j : Keyed). All (λ k. IsNotAfter n j.position k.position) back) front mid front_back mid_before;
      keyed = keyed.1;
      ordered = behind_rises sub back done.ordered;
    }

-- numbers are given one by one
pub same_places : (ks : List Keyed) (i key : ℕ) (d : Keyed) → positions (set ks i (record { key = key; position = (get_or ks i d).position })) ≡ positions ks
same_places ks i key d = map-set_same (λ (k : Keyed). k.position) ks i (record { key = key; position = (get_or ks i d).position }) d refl

pub numbered_more :
    (n : Names) (offset : ℕ) (ks : List Keyed) (i : ℕ) (k : Keyed) → i < length ks → IsKeyed n offset k → All (IsKeyed n offset) (take i ks) →
    All (IsKeyed n offset) (take (i + 1) (set ks i k))
numbered_more n offset ks i k within own all =
    subst (All (IsKeyed n offset)) (sym (take_more_set ks i k within)) (All-append (IsKeyed n offset) (take i ks) (k ∷ []) all (All-cons (IsKeyed n offset) k [] own (All-nil (IsKeyed n offset))))

-- those behind a run have greater numbers
pub above :
    (run : List Keyed) (from to : ℕ) → from < to → (to < length run → key_at run to ≢ key_at run from) → IsNonDecreasingBy (λ k. k.key) (drop from run) →
    All (λ k. key_at run from < k.key) (drop to run)
above run from to behind last up k d low =
    let long = length-drop to run in
    let far : to + k < length run = omega (arith, low, long) in
    let size = length-drop from run in
    let here : get_or (drop to run) k d ≡ get_or run (to + k) none = get_or-drop to run k d ∙ get_or_default run (to + k) d none far in
    let at : (i : ℕ) → get_or (drop from run) i none ≡ get_or run (from + i) none = λ i. get_or-drop from run i none in
    let start : get_or (drop from run) 0 none ≡ get_or run from none = at 0 ∙ ap (λ m. get_or run m none) (omega arith) in
    let place : from + (to - from) ≡ to = omega (arith, behind) in
    let next : get_or (drop from run) (to - from) none ≡ get_or run to none = at (to - from) ∙ ap (λ m. get_or run m none) place in
    let place2 : from + (to - from + k) ≡ to + k = omega (arith, behind) in
    let own : get_or (drop from run) (to - from + k) none ≡ get_or run (to + k) none = at (to - from + k) ∙ ap (λ m. get_or run m none) place2 in
    let first = up 0 (to - from) none (omega (arith, behind)) (omega (arith, size, far, behind)) in
    let second = up (to - from) (to - from + k) none (omega arith) (omega (arith, size, far, behind)) in
    let a = ap (λ (j : Keyed). j.key) start in
    let b = ap (λ (j : Keyed). j.key) next in
    let e = ap (λ (j : Keyed). j.key) own in
    let differ = last (omega (arith, far)) in
    let less : key_at run from < key_at run to = strictly (key_at run from) (key_at run to) (omega (arith, first, a, b)) (λ same. differ (sym same)) in
    subst (λ (j : Keyed). key_at run from < j.key) (sym here) (omega (arith, less, second, b, e))
  where
    strictly : (a b : ℕ) → a ≤ b → (a ≡ b → ⊥) → a < b
    strictly a b le ne = by (ltb a b) refl
      where
        by : (t : Bool) → ltb a b ≡ t → a < b
        by true e = ltb-true a b e
        by false e = absurd (ne (let f = ltb-false a b e in omega (arith, le, f)))

-- those of one number are alike further on
pub run_alike :
    (n : Names) (offset : ℕ) (old front rest sub back : List Keyed) (x : ℕ) → AreAlike n offset (positions old) → Done n offset old front rest → rest ≡ sub ++ back →
    All (λ k. k.key ≡ x) sub → AreAlike n (offset + 7) (positions sub)
run_alike n offset old front rest sub back x alike done parts same =
    let place : Keyed → ℕ = λ k. k.position in
    let whole : positions (front ++ rest) ≡ positions front ++ (positions sub ++ positions back) =
    ap (λ l. positions (front ++ l)) parts ∙ (map-append place front (sub ++ back) ∙ ap (λ (l : List ℕ). positions front ++ l) (map-append place sub back)) in
    let now = subst (AreAlike n offset) whole (alike_moved n offset (positions old) (positions (front ++ rest)) done.moved alike) in
    let keyed = (All-parts (IsKeyed n offset) sub back (subst (All (IsKeyed n offset)) parts done.keyed)).0 in
    alike_further n offset sub x (middle n offset (positions front) (positions sub) (positions back) now) keyed same
  where
    middle : (n : Names) (offset : ℕ) (ps qs rs : List ℕ) → AreAlike n offset (ps ++ (qs ++ rs)) → AreAlike n offset qs
    middle n offset ps qs rs all =
        All-weaker (λ i. All (IsOrderBehind n offset i) (ps ++ (qs ++ rs))) (λ i. All (IsOrderBehind n offset i) qs)
        (λ i each. (All-parts (IsOrderBehind n offset i) qs rs (All-parts (IsOrderBehind n offset i) ps (qs ++ rs) each).1).0) qs
        (All-parts (λ i. All (IsOrderBehind n offset i) (ps ++ (qs ++ rs))) qs rs (All-parts (λ i. All (IsOrderBehind n offset i) (ps ++ (qs ++ rs))) ps (qs ++ rs) all).1).0

-- A run from one number to before another one, cut out of all.
pub record Cut (run a b sub back : List Keyed) (from to : ℕ) : Type 0 where
  pub whole : run ≡ a ++ b
  pub front : length a ≡ from
  pub rest : b ≡ sub ++ back
  pub long : length sub ≡ to - from
  pub some : from < to

cut_front : (run a b sub back : List Keyed) (from to : ℕ) → Cut run a b sub back from to → take from run ≡ a
cut_front run a b sub back from to cut = ap (take from) cut.whole ∙ take_at a b from cut.front

cut_rest : (run a b sub back : List Keyed) (from to : ℕ) → Cut run a b sub back from to → drop from run ≡ sub ++ back
cut_rest run a b sub back from to cut = ap (drop from) cut.whole ∙ (drop_at a b from cut.front ∙ cut.rest)

cut_run : (run a b sub back : List Keyed) (from to : ℕ) → Cut run a b sub back from to → run_in from to run ≡ sub
cut_run run a b sub back from to cut = ap (take (to - from)) (cut_rest run a b sub back from to cut) ∙ take_at sub back (to - from) cut.long

cut_back : (run a b sub back : List Keyed) (from to : ℕ) → Cut run a b sub back from to → drop to run ≡ back
cut_back run a b sub back from to cut =
    let s = cut.some in
    let place : from + (to - from) ≡ to = omega (arith, s) in
    ap (λ m. drop m run) (sym place)
    ∙ (sym (drop-drop (to - from) from run) ∙ (ap (drop (to - from)) (cut_rest run a b sub back from to cut) ∙ drop_at sub back (to - from) cut.long))

pub next_alike :
    (n : Names) (offset : ℕ) (old run a b sub back : List Keyed) (from to : ℕ) → Cut run a b sub back from to → AreAlike n offset (positions old) →
    Done n offset old (take from run) (drop from run) → All (λ k. k.key ≡ key_at run from) (run_in from to run) → AreAlike n (offset + 7) (positions sub)
next_alike n offset old run a b sub back from to cut alike done same =
    run_alike n offset old (take from run) (drop from run) sub back (key_at run from) alike done (cut_rest run a b sub back from to cut)
    (subst (All (λ k. k.key ≡ key_at run from)) (cut_run run a b sub back from to cut) same)

pub next_done :
    (n : Names) (offset : ℕ) (old run a b sub back mid : List Keyed) (from to : ℕ) → Cut run a b sub back from to → length mid ≡ length sub → AreAlike n offset (positions old) →
    Done n offset old (take from run) (drop from run) → All (λ k. k.key ≡ key_at run from) (run_in from to run) →
    (to < length run → key_at run to ≢ key_at run from) → IsSortedRun n sub mid → Done n offset old (take to (a ++ (mid ++ back))) (drop to (a ++ (mid ++ back)))
next_done n offset old run a b sub back mid from to cut long alike done same last sorted =
    let x : ℕ = key_at run from in
    let some = cut.some in
    let greater : All (λ k. x < k.key) back = subst (All (λ k. x < k.key)) (cut_back run a b sub back from to cut) (above run from to some last done.ordered) in
    let now : Done n offset old a (sub ++ back) =
    subst (λ f. Done n offset old f (sub ++ back)) (cut_front run a b sub back from to cut)
    (subst (Done n offset old (take from run)) (cut_rest run a b sub back from to cut) done) in
    let more = one_more n offset old a sub back mid x alike now (subst (All (λ k. k.key ≡ x)) (cut_run run a b sub back from to cut) same) greater sorted in
    let la = cut.front in
    let ls = cut.long in
    let end : length (a ++ mid) ≡ to = length-append a mid ∙ omega (arith, la, ls, long, some) in
    let front : take to (a ++ (mid ++ back)) ≡ a ++ mid = ap (take to) (sym (append_assoc a mid back)) ∙ take_at (a ++ mid) back to end in
    let rest : drop to (a ++ (mid ++ back)) ≡ back = ap (drop to) (sym (append_assoc a mid back)) ∙ drop_at (a ++ mid) back to end in
    subst (λ f. Done n offset old f (drop to (a ++ (mid ++ back)))) (sym front) (subst (Done n offset old (a ++ mid)) (sym rest) more)

pub end_within : (a mid sub back : List Keyed) (run b : List Keyed) (from to : ℕ) → Cut run a b sub back from to → length mid ≡ length sub → to ≤ length (a ++ (mid ++ back))
end_within a mid sub back run b from to cut long =
    let la = cut.front in
    let ls = cut.long in
    let some = cut.some in
    let whole = length-append a (mid ++ back) in
    let part = length-append mid back in omega (arith, la, ls, long, some, whole, part)

-- nothing is left
pub all_done : (n : Names) (offset : ℕ) (old run : List Keyed) (from : ℕ) → length run ≤ from → Done n offset old (take from run) (drop from run) → IsSortedRun n old run
all_done n offset old run from le done =
    subst (IsSortedRun n old) (take_all from run le) (none_left n offset old (take from run) (subst (Done n offset old (take from run)) (drop_all from run le) done))

-- all names from their beginning on, at their positions, and in the order of the names
pub all_alike : (n : Names) (ps : List ℕ) → AreAlike n 0 ps
all_alike n ps i d low j e high = refl

pub one_position : (ks : List Keyed) (i : ℕ) → positions ks ≡ range_with_len 0 i → positions (ks ++ record { key = 0; position = i } ∷ []) ≡ range_with_len 0 (i + 1)
one_position ks i are =
    map-append (λ (k : Keyed). k.position) ks (record { key = 0; position = i } ∷ []) ∙ (ap (λ (ps : List ℕ). ps ++ i ∷ []) are ∙ sym (range_more i))

pub order_of :
    (n : Names) (ks js : List Keyed) → positions ks ≡ range_with_len 0 (length (held_names n)) → IsSortedRun n ks js → IsOrderOf (held_names n) js
order_of n ks js are sorted = record {
  positions = subst (λ ps. IsPermutation ps (positions js)) are sorted.moved;
  rising = λ k d low within. sorted.rising k (k + 1) d (omega arith) within;
}
