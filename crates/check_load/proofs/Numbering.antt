-- The numbers of names, as names come one by one, and what stands at each number.
use Rattle.std.proofs.Common.{◌≡◌, ℕ, zero, suc, ◌+◌, ◌<◌, ◌≤◌, Bool, true, false, cond, not, ◌||◌, List, [], ◌∷◌, ◌++◌, map, length, get_or, Option, Some, None, refl, sym, ◌∙◌, ap, subst, arith, true≢false}
use Rattle.std.specs.Prelude.{max, nat_lt, set}
use Rattle.std.specs.Borrow.{Bor}
use Rattle.std.specs.BTreeMap.{BTreeMap, UpdatesBy, get_by}
use Rattle.std.specs.Cmp.Lexicographic.{slice_cmp}
use Rattle.std.specs.List.{list_any, position, position_or_len, slice_get}
use Rattle.std.specs.Option.{option_or}
use Rattle.std.proofs.lemmas.Option.{slice_get-get_or, slice_get_past}
use Rattle.elf_model.proofs.Found.{or_none}
use Rattle.std.specs.Ordering.{nat_cmp}
use Rattle.std.specs.Str.{bytes_eq}
use Rattle.std.proofs.lemmas.Bool.{le-ltb, lt-ltb, or_right}
use Rattle.std.proofs.lemmas.List.{get_or-set_other, get_or-set_same, get_or_past, length-append, map-append}
use Rattle.std.proofs.lemmas.Map.Text.{btree_map_updates_str}
use Rattle.std.proofs.lemmas.Slice.Eq.{bytes_eq-Decides}
use Rattle.elf_model.specs.declared.name.Name.{Name}
use Rattle.elf_model.proofs.LoadingBounds.{by_case}
use Rattle.check_load.specs.NameNumbers.{AreNumbers, is_among, number_of, with_name}

-- By the keys of a set.
among_map : (keys : List Name) (n : List ℕ) → list_any (λ k. bytes_eq n k.0.now) keys ≡ is_among (map (λ k. k.0.now) keys) n
among_map [] n = refl
among_map (k ∷ ks) n = ap (λ (b : Bool). bytes_eq n k.0.now || b) (among_map ks n)

pub number_map : (keys : List Name) (n : List ℕ) → position_or_len (λ k. bytes_eq n k.0.now) keys ≡ number_of (map (λ k. k.0.now) keys) n
number_map [] n = refl
number_map (k ∷ ks) n = ap (λ (c : ℕ). cond (not (bytes_eq n k.0.now)) (1 + c) 0) (number_map ks n)

length_map : (keys : List Name) → length keys ≡ length (map (λ k. k.0.now) keys)
length_map [] = refl
length_map (k ∷ ks) = ap (λ (c : ℕ). suc c) (length_map ks)

pub position_map : (keys : List Name) (n : List ℕ) → position (λ k. bytes_eq n k.0.now) keys ≡ position (bytes_eq n) (map (λ k. k.0.now) keys)
position_map keys n =
    ap (λ (c : ℕ). cond (nat_lt c (length keys)) (Some c) None) (number_map keys n)
    ∙ ap (λ (c : ℕ). cond (nat_lt (number_of (map (λ k. k.0.now) keys) n) c) (Some (number_of (map (λ k. k.0.now) keys) n)) None) (length_map keys)

pub name_inserted : (keys : List Name) (name : Name) →
    map (λ k. k.0.now) (cond (list_any (λ k. bytes_eq name.0.now k.0.now) keys) keys (keys ++ name ∷ [])) ≡ with_name (map (λ k. k.0.now) keys) name.0.now
name_inserted keys name =
    elim (list_any (λ k. bytes_eq name.0.now k.0.now) keys) as (λ b. map (λ k. k.0.now) (cond b keys (keys ++ name ∷ [])) ≡ cond b (map (λ k. k.0.now) keys) (map (λ k. k.0.now) keys ++ name.0.now ∷ [])) [
      | true ↦ refl
      | false ↦ map-append (λ k. k.0.now) keys (name ∷ [])
    ]
    ∙ ap (λ (b : Bool). cond b (map (λ k. k.0.now) keys) (map (λ k. k.0.now) keys ++ name.0.now ∷ [])) (among_map keys name.0.now)

pub not_among : (keys : List Name) (n : List ℕ) → not (list_any (λ k. bytes_eq n k.0.now) keys) ≡ not (is_among (map (λ k. k.0.now) keys) n)
not_among keys n = ap not (among_map keys n)

-- A name that is among names has one of the first numbers, and another one their count.
pub number_below : (names : List (List ℕ)) (n : List ℕ) → is_among names n ≡ true → number_of names n < length names
number_below [] n there = absurd (true≢false (sym there))
number_below (m ∷ ms) n there = by (bytes_eq n m) refl (number_below ms n)
  where
    by : (b : Bool) → bytes_eq n m ≡ b → (is_among ms n ≡ true → number_of ms n < length ms) → cond (not b) (1 + number_of ms n) 0 < length (m ∷ ms)
    by true e rest = omega arith
    by false e rest = omega (arith, rest (sym (ap (λ (c : Bool). c || is_among ms n) e) ∙ there))

pub number_past : (names : List (List ℕ)) (n : List ℕ) → is_among names n ≡ false → number_of names n ≡ length names
number_past [] n past = refl
number_past (m ∷ ms) n past = by (bytes_eq n m) refl (number_past ms n)
  where
    by : (b : Bool) → bytes_eq n m ≡ b → (is_among ms n ≡ false → number_of ms n ≡ length ms) → cond (not b) (1 + number_of ms n) 0 ≡ length (m ∷ ms)
    by true e rest = absurd (true≢false (sym (ap (λ (c : Bool). c || is_among ms n) e) ∙ past))
    by false e rest = omega (arith, rest (sym (ap (λ (c : Bool). c || is_among ms n) e) ∙ past))

-- what a search answers
pub found_number : (names : List (List ℕ)) (n : List ℕ) → is_among names n ≡ true → position (bytes_eq n) names ≡ Some (number_of names n)
found_number names n there = ap (λ (b : Bool). cond b (Some (number_of names n)) None) (lt-ltb (number_of names n) (length names) (number_below names n there))

pub found_none : (names : List (List ℕ)) (n : List ℕ) → is_among names n ≡ false → position (bytes_eq n) names ≡ None
found_none names n past =
    let last = number_past names n past in
    ap (λ (b : Bool). cond b (Some (number_of names n)) None) (le-ltb (number_of names n) (length names) (omega (arith, last)))

-- The name that has a number.
number_at : (names : List (List ℕ)) (n d : List ℕ) → is_among names n ≡ true → get_or names (number_of names n) d ≡ n
number_at [] n d there = absurd (true≢false (sym there))
number_at (m ∷ ms) n d there = by (bytes_eq n m) refl (number_at ms n d)
  where
    by : (b : Bool) → bytes_eq n m ≡ b → (is_among ms n ≡ true → get_or ms (number_of ms n) d ≡ n) → get_or (m ∷ ms) (cond (not b) (1 + number_of ms n) 0) d ≡ n
    by true e rest = sym ((bytes_eq-Decides n m).0 e)
    by false e rest =
        let next : 1 + number_of ms n ≡ suc (number_of ms n) = omega arith in
        rw next (rest (sym (ap (λ (c : Bool). c || is_among ms n) e) ∙ there))

-- only one name has a number
pub number_once : (names : List (List ℕ)) (a b : List ℕ) → is_among names a ≡ true → number_of names b ≡ number_of names a → bytes_eq a b ≡ true
number_once names a b there same = by_case (is_among names b)
    (λ t. (bytes_eq-Decides a b).1 (sym (number_at names a [] there) ∙ (ap (λ (i : ℕ). get_or names i []) (sym same) ∙ number_at names b [] t)))
    (λ f. absurd (omega (arith, number_below names a there, number_past names b f, same)))

-- the last one's number is the count of those before it
number_pushed : (names : List (List ℕ)) (n : List ℕ) → is_among names n ≡ false → number_of (names ++ n ∷ []) n ≡ length names
number_pushed [] n past = ap (λ (c : Bool). cond (not c) (1 + 0) 0) ((bytes_eq-Decides n n).1 refl)
number_pushed (m ∷ ms) n past = by (bytes_eq n m) refl (number_pushed ms n)
  where
    by : (b : Bool) → bytes_eq n m ≡ b → (is_among ms n ≡ false → number_of (ms ++ n ∷ []) n ≡ length ms) → cond (not b) (1 + number_of (ms ++ n ∷ []) n) 0 ≡ length (m ∷ ms)
    by true e rest = absurd (true≢false (sym (ap (λ (c : Bool). c || is_among ms n) e) ∙ past))
    by false e rest = omega (arith, rest (sym (ap (λ (c : Bool). c || is_among ms n) e) ∙ past))

-- a name that comes has its number among the names before it, or their count
pub number_with : (names : List (List ℕ)) (n : List ℕ) → number_of (with_name names n) n ≡ number_of names n
number_with names n = by_case (is_among names n)
    (λ t. ap (λ (b : Bool). number_of (cond b names (names ++ n ∷ [])) n) t)
    (λ f. ap (λ (b : Bool). number_of (cond b names (names ++ n ∷ [])) n) f ∙ (number_pushed names n f ∙ sym (number_past names n f)))

-- a name is among more names too
among_front : (names : List (List ℕ)) (x n : List ℕ) → is_among names n ≡ true → is_among (names ++ x ∷ []) n ≡ true
among_front [] x n there = absurd (true≢false (sym there))
among_front (m ∷ ms) x n there = by (bytes_eq n m) refl (among_front ms x n)
  where
    by : (b : Bool) → bytes_eq n m ≡ b → (is_among ms n ≡ true → is_among (ms ++ x ∷ []) n ≡ true) → (bytes_eq n m || is_among (ms ++ x ∷ []) n) ≡ true
    by true e rest = ap (λ (c : Bool). c || is_among (ms ++ x ∷ []) n) e
    by false e rest = or_right (bytes_eq n m) (is_among (ms ++ x ∷ []) n) (rest (sym (ap (λ (c : Bool). c || is_among ms n) e) ∙ there))

-- a name that comes is among names
among_last : (names : List (List ℕ)) (n : List ℕ) → is_among (names ++ n ∷ []) n ≡ true
among_last [] n = ap (λ (c : Bool). c || false) ((bytes_eq-Decides n n).1 refl)
among_last (m ∷ ms) n = or_right (bytes_eq n m) (is_among (ms ++ n ∷ []) n) (among_last ms n)

pub among_with : (names : List (List ℕ)) (n : List ℕ) → is_among (with_name names n) n ≡ true
among_with names n = by_case (is_among names n)
    (λ t. ap (λ (b : Bool). is_among (cond b names (names ++ n ∷ [])) n) t ∙ t)
    (λ f. ap (λ (b : Bool). is_among (cond b names (names ++ n ∷ [])) n) f ∙ among_last names n)

-- A name behind names leaves the others their numbers.
pub number_kept : (names : List (List ℕ)) (x n : List ℕ) → is_among names n ≡ true → number_of (names ++ x ∷ []) n ≡ number_of names n
number_kept [] x n t = absurd (true≢false (sym t))
number_kept (m ∷ ms) x n t = by (bytes_eq n m) refl (number_kept ms x n)
  where
    by : (b : Bool) → bytes_eq n m ≡ b → (is_among ms n ≡ true → number_of (ms ++ x ∷ []) n ≡ number_of ms n) → cond (not b) (1 + number_of (ms ++ x ∷ []) n) 0 ≡ cond (not b) (1 + number_of ms n) 0
    by true e rest = refl
    by false e rest = ap (λ (c : ℕ). 1 + c) (rest (sym (ap (λ (c : Bool). c || is_among ms n) e) ∙ t))

apart : (x n : List ℕ) → bytes_eq x n ≡ false → bytes_eq n x ≡ false
apart x n other = by (bytes_eq n x) refl
  where
    by : (b : Bool) → bytes_eq n x ≡ b → bytes_eq n x ≡ false
    by true e = absurd (true≢false (sym ((bytes_eq-Decides x n).1 (sym ((bytes_eq-Decides n x).0 e))) ∙ other))
    by false e = e

among_other : (names : List (List ℕ)) (x n : List ℕ) → bytes_eq x n ≡ false → is_among (names ++ x ∷ []) n ≡ is_among names n
among_other [] x n other = ap (λ (c : Bool). c || false) (apart x n other)
among_other (m ∷ ms) x n other = ap (λ (c : Bool). bytes_eq n m || c) (among_other ms x n other)

others_past : (names : List (List ℕ)) (x n : List ℕ) → bytes_eq x n ≡ false → is_among names n ≡ false → is_among (names ++ x ∷ []) n ≡ false
others_past names x n other past = among_other names x n other ∙ past

-- A name behind names, in an ordered table.
other_pushed : (names : List (List ℕ)) (x n : List ℕ) → bytes_eq x n ≡ false → position (bytes_eq n) (names ++ x ∷ []) ≡ position (bytes_eq n) names
other_pushed names x n other = by_case (is_among names n)
    (λ t. found_number (names ++ x ∷ []) n (among_other names x n other ∙ t) ∙ (ap Some (number_kept names x n t) ∙ sym (found_number names n t)))
    (λ f. found_none (names ++ x ∷ []) n (others_past names x n other f) ∙ sym (found_none names n f))

none_among : (names : List (List ℕ)) (n : List ℕ) → position (bytes_eq n) names ≡ None → is_among names n ≡ false
none_among names n none = by_case (is_among names n) (λ t. absurd (some (number_of names n) (sym (found_number names n t) ∙ none))) (λ f. f)
  where
    some : (k : ℕ) → Some k ≡ None → ⊥
    some k e = true≢false (ap (λ (o : Option ℕ). elim o as (λ _. Bool) [ None ↦ false | Some _ ↦ true ]) e)

pub number_new : (names : List (List ℕ)) (n : List ℕ) → position (bytes_eq n) names ≡ None → number_of names n ≡ length names
number_new names n none = number_past names n (none_among names n none)

pub numbers_pushed :
    (names : List (List ℕ)) (old new : BTreeMap (Bor (List ℕ)) ℕ) (name : List ℕ) → AreNumbers names old → position (bytes_eq name) names ≡ None →
    UpdatesBy (λ x y. slice_cmp nat_cmp x.now y.now) (λ k. slice_cmp nat_cmp name k.now) old new (Some (length names)) →
    AreNumbers (names ++ name ∷ []) new
numbers_pushed names old new name are none updates n =
    btree_map_updates_str name old new (Some (length names)) updates n ∙ by (bytes_eq name n) refl
  where
    last : position (bytes_eq name) (names ++ name ∷ []) ≡ Some (length names)
    last = found_number (names ++ name ∷ []) name (among_last names name) ∙ ap Some (number_pushed names name (none_among names name none))

    by : (b : Bool) → bytes_eq name n ≡ b → cond b (Some (length names)) (get_by (λ k. slice_cmp nat_cmp n k.now) old) ≡ position (bytes_eq n) (names ++ name ∷ [])
    by true e = sym (subst (λ (m : List ℕ). position (bytes_eq m) (names ++ name ∷ []) ≡ Some (length names)) ((bytes_eq-Decides name n).0 e) last)
    by false e = are n ∙ sym (other_pushed names name n e)

-- A name that comes through a search of the names.
pub known_with : (names : List (List ℕ)) (n : List ℕ) (k : ℕ) → position (bytes_eq n) names ≡ Some k → (names ≡ with_name names n) × (k ≡ number_of names n) × (false ≡ not (is_among names n))
known_with names n k is = by_case (is_among names n) there past
  where
    there : is_among names n ≡ true → (names ≡ with_name names n) × (k ≡ number_of names n) × (false ≡ not (is_among names n))
    there t = (
      sym (ap (λ (b : Bool). cond b names (names ++ n ∷ [])) t),
      ap (λ (o : Option ℕ). elim o as (λ _. ℕ) [ None ↦ k | Some j ↦ j ]) (sym is ∙ found_number names n t),
      sym (ap not t),
    )

    past : is_among names n ≡ false → (names ≡ with_name names n) × (k ≡ number_of names n) × (false ≡ not (is_among names n))
    past f = absurd (true≢false (ap (λ (o : Option ℕ). elim o as (λ _. Bool) [ None ↦ false | Some _ ↦ true ]) (sym is ∙ found_none names n f)))

pub new_with : (names : List (List ℕ)) (n : List ℕ) → position (bytes_eq n) names ≡ None → (names ++ n ∷ [] ≡ with_name names n) × (true ≡ not (is_among names n))
new_with names n none =
    let f = none_among names n none in
    (sym (ap (λ (b : Bool). cond b names (names ++ n ∷ [])) f), sym (ap not f))

pub numbers_put :
    (items new_items : List (Bor (List ℕ))) (old new : BTreeMap (Bor (List ℕ)) ℕ) (name : Bor (List ℕ)) (k : ℕ) → AreNumbers (map (λ n. n.now) items) old →
    position (bytes_eq name.now) (map (λ n. n.now) items) ≡ None → new_items ≡ items ++ name ∷ [] → k ≡ length items →
    UpdatesBy (λ x y. slice_cmp nat_cmp x.now y.now) (λ x. slice_cmp nat_cmp name.now x.now) old new (Some k) → AreNumbers (map (λ n. n.now) new_items) new
numbers_put items new_items old new name k are none grown last updates =
    subst (λ (names : List (List ℕ)). AreNumbers names new) (sym (ap (λ (l : List (Bor (List ℕ))). map (λ n. n.now) l) grown ∙ map-append (λ n. n.now) items (name ∷ [])))
    (numbers_pushed (map (λ n. n.now) items) old new name.now are none
    (subst (λ (j : ℕ). UpdatesBy (λ x y. slice_cmp nat_cmp x.now y.now) (λ x. slice_cmp nat_cmp name.now x.now) old new (Some j)) (last ∙ long items) updates))
  where
    long : (xs : List (Bor (List ℕ))) → length xs ≡ length (map (λ n. n.now) xs)
    long [] = refl
    long (x ∷ xs) = ap (λ (c : ℕ). suc c) (long xs)

-- a name that has a number keeps it when another comes
pub kept_with : (names : List (List ℕ)) (x n : List ℕ) (k : ℕ) → position (bytes_eq n) names ≡ Some k → position (bytes_eq n) (with_name names x) ≡ Some k
kept_with names x n k is = by_case (is_among names x)
    (λ t. ap (λ (b : Bool). position (bytes_eq n) (cond b names (names ++ x ∷ []))) t ∙ is)
    (λ f. ap (λ (b : Bool). position (bytes_eq n) (cond b names (names ++ x ∷ []))) f ∙ behind)
  where
    among : is_among names n ≡ true
    among = by_case (is_among names n) (λ t. t) (λ f. absurd (true≢false (ap (λ (o : Option ℕ). elim o as (λ _. Bool) [ None ↦ false | Some _ ↦ true ]) (sym is ∙ found_none names n f))))

    behind : position (bytes_eq n) (names ++ x ∷ []) ≡ Some k
    behind = found_number (names ++ x ∷ []) n (among_front names x n among) ∙ (ap Some (number_kept names x n among) ∙ (sym (found_number names n among) ∙ is))

-- Values at the numbers of names.
module _ {X : Type 0} (none : X) where
  -- one behind others that stands for none
  pub none_behind : (values : List X) (i : ℕ) → get_or (values ++ none ∷ []) i none ≡ get_or values i none
  none_behind [] zero = refl
  none_behind [] (suc i) = refl
  none_behind (x ∷ xs) zero = refl
  none_behind (x ∷ xs) (suc i) = none_behind xs i

  -- where some of the first names have values, a name that comes has none, and the others have theirs
  pub value_with : (names : List (List ℕ)) (values : List X) (x n : List ℕ) → length values ≤ length names →
      get_or values (number_of (with_name names x) n) none ≡ get_or values (number_of names n) none
  value_with names values x n sized = by_case (is_among names x)
      (λ t. ap (λ (b : Bool). get_or values (number_of (cond b names (names ++ x ∷ [])) n) none) t)
      (λ f. ap (λ (b : Bool). get_or values (number_of (cond b names (names ++ x ∷ [])) n) none) f ∙ new f)
    where
      past : (k : ℕ) → length names ≤ k → get_or values k none ≡ none
      past k high = get_or_past values k none (omega (arith, high, sized))

      new : is_among names x ≡ false → get_or values (number_of (names ++ x ∷ []) n) none ≡ get_or values (number_of names n) none
      new f = by_case (bytes_eq x n)
          (λ e. subst (λ (m : List ℕ). get_or values (number_of (names ++ x ∷ []) m) none ≡ get_or values (number_of names m) none) ((bytes_eq-Decides x n).0 e)
          (ap (λ (k : ℕ). get_or values k none) (number_pushed names x f ∙ sym (number_past names x f))))
          (λ e. by_case (is_among names n)
          (λ t. ap (λ (k : ℕ). get_or values k none) (number_kept names x n t))
          (λ g. past (number_of (names ++ x ∷ []) n) (let last = number_past (names ++ x ∷ []) n (others_past names x n e g) in let more = length-append names (x ∷ []) in omega (arith, last, more))
          ∙ sym (past (number_of names n) (let last = number_past names n g in omega (arith, last)))))

  -- a value is put at the number of a name that comes
  pub value_put : (names later : List (List ℕ)) (values : List X) (name : List ℕ) (i : ℕ) (v : X) → later ≡ with_name names name → i ≡ number_of names name →
      i < length values → (n : List ℕ) → get_or (set values i v) (number_of later n) none ≡ cond (bytes_eq name n) v (get_or values (number_of later n) none)
  value_put names later values name i v comes is there n = by (bytes_eq name n) refl
    where
      now : number_of later name ≡ i
      now = ap (λ (l : List (List ℕ)). number_of l name) comes ∙ (number_with names name ∙ sym is)

      by : (b : Bool) → bytes_eq name n ≡ b → get_or (set values i v) (number_of later n) none ≡ cond b v (get_or values (number_of later n) none)
      by true e =
          let same : number_of later n ≡ i = ap (number_of later) (sym ((bytes_eq-Decides name n).0 e)) ∙ now in
          ap (λ (k : ℕ). get_or (set values i v) k none) same ∙ get_or-set_same values i v none there
      by false e =
          get_or-set_other values i (number_of later n) v none
          (λ same. true≢false (sym (number_once later name n (subst (λ (l : List (List ℕ)). is_among l name ≡ true) (sym comes) (among_with names name)) (same ∙ sym now)) ∙ e))

  -- a value is put at the number of a name that comes, once the values reach it
  pub value_written : (names later : List (List ℕ)) (values reached : List X) (name : List ℕ) (i : ℕ) (v : X) → length values ≤ length names →
      later ≡ with_name names name → i ≡ number_of names name → ((k : ℕ) → get_or reached k none ≡ get_or values k none) → i < length reached → (n : List ℕ) →
      get_or (set reached i v) (number_of later n) none ≡ cond (bytes_eq name n) v (get_or values (number_of names n) none)
  value_written names later values reached name i v sized comes is same there n =
      value_put names later reached name i v comes is there n
      ∙ ap (λ (x : X). cond (bytes_eq name n) v x)
      (same (number_of later n) ∙ (ap (λ (l : List (List ℕ)). get_or values (number_of l n) none) comes ∙ value_with names values name n sized))

-- Names that grow by one that comes, of which a first part has values.
pub size_with : (names later : List (List ℕ)) (name : List ℕ) (i old new : ℕ) → later ≡ with_name names name → i ≡ number_of names name → old ≤ length names → new ≤ max old (i + 1) →
    new ≤ length later
size_with names later name i old new comes is before after =
    let inside = number_below later name (subst (λ (l : List (List ℕ)). is_among l name ≡ true) (sym comes) (among_with names name)) in
    let at : number_of later name ≡ i = ap (λ (l : List (List ℕ)). number_of l name) comes ∙ (number_with names name ∙ sym is) in
    let longer : length names ≤ length later = subst (λ (l : List (List ℕ)). length names ≤ length l) (sym comes) (long (is_among names name)) in
    omega (arith, inside, at, longer, before, after)
  where
    long : (b : Bool) → length names ≤ length (cond b names (names ++ name ∷ []))
    long true = omega arith
    long false = let more = length-append names (name ∷ []) in omega (arith, more)

slice_get_last : {X : Type 0} (xs : List X) (x : X) → slice_get (xs ++ x ∷ []) (length xs) ≡ Some x
slice_get_last [] x = refl
slice_get_last (y ∷ ys) x = slice_get_last ys x

slice_get_before : {X : Type 0} (xs : List X) (x : X) (i : ℕ) → i < length xs → slice_get (xs ++ x ∷ []) i ≡ slice_get xs i
slice_get_before [] x i low = absurd (omega (arith, low))
slice_get_before (y ∷ ys) x zero low = refl
slice_get_before (y ∷ ys) x (suc i) low = slice_get_before ys x i (omega (arith, low))

-- Values of all names.
module _ {X : Type 0} (names : List (List ℕ)) (values : List X) (name : List ℕ) (v : X) (sized : length values ≡ length names) where
  -- one comes with a new name
  pub value_pushed : is_among names name ≡ false → (n : List ℕ) →
      slice_get (values ++ v ∷ []) (number_of (with_name names name) n) ≡ option_or (slice_get values (number_of names n)) (cond (bytes_eq name n) (Some v) None)
  value_pushed past n =
      ap (λ (b : Bool). slice_get (values ++ v ∷ []) (number_of (cond b names (names ++ name ∷ [])) n)) past ∙ by (bytes_eq name n) refl
    where
      last : slice_get (values ++ v ∷ []) (number_of (names ++ name ∷ []) name) ≡ option_or (slice_get values (number_of names name)) (Some v)
      last =
          let at = number_pushed names name past in
          let before = number_past names name past in
          ap (λ (k : ℕ). slice_get (values ++ v ∷ []) k) (at ∙ sym sized) ∙ (slice_get_last values v
          ∙ sym (ap (λ (o : Option X). option_or o (Some v)) (slice_get_past values (number_of names name) (omega (arith, before, sized)))))

      by : (b : Bool) → bytes_eq name n ≡ b →
          slice_get (values ++ v ∷ []) (number_of (names ++ name ∷ []) n) ≡ option_or (slice_get values (number_of names n)) (cond b (Some v) None)
      by true e =
          subst (λ (m : List ℕ). slice_get (values ++ v ∷ []) (number_of (names ++ name ∷ []) m) ≡ option_or (slice_get values (number_of names m)) (Some v))
          ((bytes_eq-Decides name n).0 e) last
      by false e = by_case (is_among names n)
          (λ t.
          let low = number_below names n t in
          ap (λ (k : ℕ). slice_get (values ++ v ∷ []) k) (number_kept names name n t)
          ∙ (slice_get_before values v (number_of names n) (omega (arith, low, sized)) ∙ sym (or_none (slice_get values (number_of names n)))))
          (λ f.
          let at = number_past (names ++ name ∷ []) n (others_past names name n e f) in
          let before = number_past names n f in
          let longer = length-append names (name ∷ []) in
          let more = length-append values (v ∷ []) in
          slice_get_past (values ++ v ∷ []) (number_of (names ++ name ∷ []) n) (omega (arith, at, longer, more, sized))
          ∙ sym (ap (λ (o : Option X). option_or o None) (slice_get_past values (number_of names n) (omega (arith, before, sized)))))

  -- none comes with a name that is known
  pub value_known : is_among names name ≡ true → (n : List ℕ) →
      slice_get values (number_of names n) ≡ option_or (slice_get values (number_of names n)) (cond (bytes_eq name n) (Some v) None)
  value_known known n = by (bytes_eq name n) refl
    where
      there : slice_get values (number_of names name) ≡ option_or (slice_get values (number_of names name)) (Some v)
      there =
          let low = number_below names name known in
          let is = slice_get-get_or values (number_of names name) v (omega (arith, low, sized)) in
          is ∙ sym (ap (λ (o : Option X). option_or o (Some v)) is)

      by : (b : Bool) → bytes_eq name n ≡ b → slice_get values (number_of names n) ≡ option_or (slice_get values (number_of names n)) (cond b (Some v) None)
      by true e =
          subst (λ (m : List ℕ). slice_get values (number_of names m) ≡ option_or (slice_get values (number_of names m)) (Some v)) ((bytes_eq-Decides name n).0 e) there
      by false e = sym (or_none (slice_get values (number_of names n)))
