-- The list of the chosen symbols has for each name its chosen definition, and no second one.
use Rattle.std.proofs.Common.{◌≡◌, ℕ, ◌+◌, ◌<◌, ◌≤◌, ◌==◌, Bool, true, false, cond, ◌&&◌, ◌||◌, List, [], ◌∷◌, get_or, refl, sym, ◌∙◌, ap, arith}
use Rattle.std.specs.List.{list_any}
use Rattle.std.specs.Prelude.{◌≢◌, All, Contains, count_by, filter, find, None, Option, Some}
use Rattle.std.specs.Option.{option_map_or, option_or}
use Rattle.std.proofs.lemmas.Bool.{and_parts, eq-eqb, eqb-true, false≢true}
use Rattle.std.proofs.lemmas.List.Elements.{All-contains, All-head, All-tail}
use Rattle.std.proofs.lemmas.List.Sums.{sum_by-append}
use Rattle.std.proofs.lemmas.Option.{none-some}
use Rattle.std.proofs.lemmas.Slice.Eq.{bytes_eq-Decides}
use Rattle.elf_model.specs.Link.ChosenSymbols.{chosen_symbols, definitions, is_chosen, is_definition, is_same_symbol}
use Rattle.elf_model.specs.Link.Loading.{LoadedObject}
use Rattle.elf_model.specs.Inputs.ObjectFile.{symbols}
use Rattle.elf_model.specs.Link.Resolution.{AreUnique, SymbolOf, all_symbols, chosen, common_symbols, has_name, is_common_definition, is_strong, is_weak_definition, strong_definitions, symbol_of, symbols_from, symbols_of, weak_definitions}
use Rattle.elf_model.specs.declared.records.Symbol.{Symbol}
use Rattle.elf_model.proofs.Finding.{find-found, find-none}
use Rattle.elf_model.proofs.Found.{find-filter}
use Rattle.elf_model.proofs.Listed.{All-from_contains, Contains-filter, Contains-from_filter}
use Rattle.elf_model.proofs.RisingNames.{absent_count, all_found, counted}

-- a symbol has an object's and its own number
abbrev is_numbered : ℕ → ℕ → SymbolOf → Bool
is_numbered k j s = s.object == k && s.number == j

not_false : (b : Bool) → (b ≡ true → ⊥) → b ≡ false
not_false true never = absurd (never refl)
not_false false never = refl

module _ (k j : ℕ) where
  other_numbers : (s : SymbolOf) → (s.object ≡ k → s.number ≡ j → ⊥) → is_numbered k j s ≡ false
  other_numbers s other =
      not_false (is_numbered k j s)
      (λ e.
      let parts = and_parts (s.object == k) (s.number == j) e in
      other (eqb-true s.object k parts.0) (eqb-true s.number j parts.1))

  -- the symbols of an object from a number on have no lower number
  none_from :
      (object : ℕ) (o : LoadedObject) (i : ℕ) (ss : List Symbol) → (object ≡ k → j < i) →
      count_by (is_numbered k j) (symbols_from object o i ss) ≡ 0
  none_from object o i [] low = refl
  none_from object o i (s ∷ ss) low =
      let rest = none_from object o (i + 1) ss (λ e. let l = low e in omega (arith, l)) in
      let n = counted (is_numbered k j) (symbol_of object o i s) (symbols_from object o (i + 1) ss) in
      let here =
      ap {B = ℕ} (λ b. cond b 1 0) (other_numbers (symbol_of object o i s) (λ e m. let l = low e in omega (arith, l, m))) in
      omega (arith, rest, n, here)

  one_from : (object : ℕ) (o : LoadedObject) (i : ℕ) (ss : List Symbol) → count_by (is_numbered k j) (symbols_from object o i ss) ≤ 1
  one_from object o i [] = omega arith
  one_from object o i (s ∷ ss) = by (is_numbered k j first) refl (one_from object o (i + 1) ss)
    where
      first : SymbolOf
      first = symbol_of object o i s

      by :
          (b : Bool) → is_numbered k j first ≡ b → count_by (is_numbered k j) (symbols_from object o (i + 1) ss) ≤ 1 →
          count_by (is_numbered k j) (symbols_from object o i (s ∷ ss)) ≤ 1
      by true e rest =
          let parts = and_parts (object == k) (i == j) e in
          let none = none_from object o (i + 1) ss (λ e. let m = eqb-true i j parts.1 in omega (arith, m)) in
          let n = counted (is_numbered k j) first (symbols_from object o (i + 1) ss) in
          let here = ap {B = ℕ} (λ b. cond b 1 0) e in
          omega (arith, none, n, here)
      by false e rest =
          let n = counted (is_numbered k j) first (symbols_from object o (i + 1) ss) in
          let here = ap {B = ℕ} (λ b. cond b 1 0) e in
          omega (arith, rest, n, here)

  none_of : (from : ℕ) (os : List LoadedObject) → k < from → count_by (is_numbered k j) (symbols_of from os) ≡ 0
  none_of from [] low = refl
  none_of from (o ∷ os) low =
      let both = sum_by-append (λ s. cond (is_numbered k j s) 1 0) (symbols_from from o 0 (symbols o.bytes)) (symbols_of (from + 1) os) in
      let front = none_from from o 0 (symbols o.bytes) (λ e. omega (arith, e, low)) in
      let rest = none_of (from + 1) os (omega (arith, low)) in
      omega (arith, both, front, rest)

  -- no two symbols have the same numbers
  one_of : (from : ℕ) (os : List LoadedObject) → count_by (is_numbered k j) (symbols_of from os) ≤ 1
  one_of from [] = omega arith
  one_of from (o ∷ os) = by (from == k) refl (one_of (from + 1) os)
    where
      by :
          (b : Bool) → from == k ≡ b → count_by (is_numbered k j) (symbols_of (from + 1) os) ≤ 1 →
          count_by (is_numbered k j) (symbols_of from (o ∷ os)) ≤ 1
      by true e rest =
          let both = sum_by-append (λ s. cond (is_numbered k j s) 1 0) (symbols_from from o 0 (symbols o.bytes)) (symbols_of (from + 1) os) in
          let is = eqb-true from k e in
          let front = one_from from o 0 (symbols o.bytes) in
          let none = none_of (from + 1) os (omega (arith, is)) in
          omega (arith, both, front, none)
      by false e rest =
          let both = sum_by-append (λ s. cond (is_numbered k j s) 1 0) (symbols_from from o 0 (symbols o.bytes)) (symbols_of (from + 1) os) in
          let none = none_from from o 0 (symbols o.bytes) (λ same. absurd (false≢true (sym e ∙ eq-eqb from k same))) in
          omega (arith, both, none, rest)

-- counts of tests of which one implies the other, and of a filtered list
pub count_le : {X : Type 0} (p q : X → Bool) (xs : List X) → ((x : X) → p x ≡ true → q x ≡ true) → count_by p xs ≤ count_by q xs
count_le p q [] so = omega arith
count_le {X} p q (x ∷ xs) so = by (p x) refl (count_le p q xs so)
  where
    by : (b : Bool) → p x ≡ b → count_by p xs ≤ count_by q xs → count_by p (x ∷ xs) ≤ count_by q (x ∷ xs)
    by true e rest =
        let m = counted p x xs in
        let n = counted q x xs in
        let a = ap {B = ℕ} (λ b. cond b 1 0) e in
        let b = ap {B = ℕ} (λ b. cond b 1 0) (so x e) in
        omega (arith, m, n, a, b, rest)
    by false e rest =
        let m = counted p x xs in
        let n = counted q x xs in
        let a = ap {B = ℕ} (λ b. cond b 1 0) e in
        omega (arith, m, n, a, rest)

pub count_filter : {X : Type 0} (p q : X → Bool) (xs : List X) → count_by q (filter p xs) ≡ count_by (λ x. p x && q x) xs
count_filter p q [] = refl
count_filter {X} p q (x ∷ xs) = by (p x) refl (count_filter p q xs)
  where
    by :
        (b : Bool) → p x ≡ b → count_by q (filter p xs) ≡ count_by (λ y. p y && q y) xs →
        count_by q (filter p (x ∷ xs)) ≡ count_by (λ y. p y && q y) (x ∷ xs)
    by true e rest =
        ap (λ b. count_by q (cond b (x ∷ filter p xs) (filter p xs))) e
        ∙ counted q x (filter p xs)
        ∙ ap (λ n. cond (q x) 1 0 + n) rest
        ∙ sym (counted (λ y. p y && q y) x xs ∙ ap {B = ℕ} (λ b. cond (b && q x) 1 0 + count_by (λ y. p y && q y) xs) e)
    by false e rest =
        ap (λ b. count_by q (cond b (x ∷ filter p xs) (filter p xs))) e
        ∙ rest
        ∙ sym (counted (λ y. p y && q y) x xs ∙ ap {B = ℕ} (λ b. cond (b && q x) 1 0 + count_by (λ y. p y && q y) xs) e ∙ omega arith)

or_right : (a b : Bool) → b ≡ true → (a || b) ≡ true
or_right true b t = refl
or_right false b t = t

right_of : (a b : Bool) → (a || b) ≡ true → a ≡ false → b ≡ true
right_of true b t none = absurd (false≢true (sym none))
right_of false b t none = t

-- a search, by the test of any
pub find_any : {X : Type 0} (p : X → Bool) (xs : List X) → find p xs ≢ None → list_any p xs ≡ true
find_any p [] some = absurd (some refl)
find_any {X} p (x ∷ xs) some = by (p x) refl (find_any p xs)
  where
    by : (b : Bool) → p x ≡ b → (find p xs ≢ None → list_any p xs ≡ true) → list_any p (x ∷ xs) ≡ true
    by true e rest = ap (λ b. b || list_any p xs) e
    by false e rest =
        ap (λ b. b || list_any p xs) e
        ∙ rest (λ none. some (ap (λ b. cond b (Some x) (find p xs)) e ∙ none))

pub any_find : {X : Type 0} (p : X → Bool) (xs : List X) → list_any p xs ≡ true → find p xs ≢ None
any_find p [] any none = false≢true any
any_find {X} p (x ∷ xs) any none = by (p x) refl (any_find p xs)
  where
    by : (b : Bool) → p x ≡ b → (list_any p xs ≡ true → find p xs ≢ None) → ⊥
    by true e rest = none-some x (sym (sym (ap (λ b. cond b (Some x) (find p xs)) e) ∙ none))
    by false e rest =
        rest (sym (ap (λ b. b || list_any p xs) e) ∙ any) (sym (ap (λ b. cond b (Some x) (find p xs)) e) ∙ none)

none_any : {X : Type 0} (p : X → Bool) (xs : List X) → find p xs ≡ None → list_any p xs ≡ false
none_any p xs none = not_false (list_any p xs) (λ t. any_find p xs t none)

-- any of those that pass either test
any_filter :
    {X : Type 0} (h p q : X → Bool) (xs : List X) →
    list_any h (filter (λ x. p x || q x) xs) ≡ (list_any h (filter p xs) || list_any h (filter q xs))
any_filter h p q [] = refl
any_filter {X} h p q (x ∷ xs) = by (p x) (q x) refl refl (any_filter h p q xs)
  where
    swap : (a b c : Bool) → (a || (b || c)) ≡ (b || (a || c))
    swap true true c = refl
    swap true false c = refl
    swap false true c = refl
    swap false false c = refl

    twice : (a b c : Bool) → (a || (b || c)) ≡ ((a || b) || (a || c))
    twice true b c = refl
    twice false b c = refl

    by :
        (a b : Bool) → p x ≡ a → q x ≡ b →
        list_any h (filter (λ y. p y || q y) xs) ≡ (list_any h (filter p xs) || list_any h (filter q xs)) →
        list_any h (filter (λ y. p y || q y) (x ∷ xs)) ≡ (list_any h (filter p (x ∷ xs)) || list_any h (filter q (x ∷ xs)))
    by true true e f rest = rw (e, f) (ap (λ c. h x || c) rest ∙ twice (h x) (list_any h (filter p xs)) (list_any h (filter q xs)))
    by true false e f rest = rw (e, f) (ap (λ c. h x || c) rest ∙ left (h x) (list_any h (filter p xs)) (list_any h (filter q xs)))
      where
        left : (a b c : Bool) → (a || (b || c)) ≡ ((a || b) || c)
        left true b c = refl
        left false b c = refl
    by false true e f rest = rw (e, f) (ap (λ c. h x || c) rest ∙ swap (h x) (list_any h (filter p xs)) (list_any h (filter q xs)))
    by false false e f rest = rw (e, f) rest

module _ (L : List LoadedObject) (n : List ℕ) where
  -- a symbol is a definition of the name, and the chosen one of its own
  abbrev stands : SymbolOf → Bool
  stands s = is_definition s && (is_chosen L s && has_name n s)

  listed_count : count_by (has_name n) (chosen_symbols L) ≡ count_by stands (all_symbols L)
  listed_count =
      count_filter (is_chosen L) (has_name n) (definitions L)
      ∙ count_filter is_definition (λ s. is_chosen L s && has_name n s) (all_symbols L)

  listed_found : find (has_name n) (chosen_symbols L) ≡ find stands (all_symbols L)
  listed_found =
      find-filter (is_chosen L) (has_name n) (definitions L)
      ∙ find-filter is_definition (λ s. is_chosen L s && has_name n s) (all_symbols L)

  -- what stands for the name is what is chosen for it
  told_by : (o : Option SymbolOf) → chosen L n ≡ o → (s : SymbolOf) → stands s ≡ true → option_map_or (is_same_symbol s) o false ≡ true
  told_by o is s t =
      let parts = and_parts (is_definition s) (is_chosen L s && has_name n s) t in
      let more = and_parts (is_chosen L s) (has_name n s) parts.1 in
      let name : s.name ≡ n = (bytes_eq-Decides s.name n).0 more.1 in
      sym (ap (λ (m : List ℕ). option_map_or (is_same_symbol s) (chosen L m) false) name ∙ ap (λ (c : Option SymbolOf). option_map_or (is_same_symbol s) c false) is)
      ∙ more.0

  -- what a search among some of the definitions finds is one of all symbols, and has the name
  found_among :
      (kind : SymbolOf → Bool) (c : SymbolOf) → find (has_name n) (filter kind (all_symbols L)) ≡ Some c →
      Contains (all_symbols L) c × (kind c ≡ true) × (has_name n c ≡ true)
  found_among kind c is =
      let f = find-found (has_name n) (filter kind (all_symbols L)) c is in
      let there = Contains-from_filter kind (all_symbols L) c f.there in
      (there.0, there.1, f.passes)

  -- a definition that is chosen is one of all symbols, has the name, and stands for it
  chosen_among :
      (c : SymbolOf) (o p : Option SymbolOf) → find (has_name n) (strong_definitions L) ≡ o → find (has_name n) (common_symbols L) ≡ p →
      option_or o (option_or p (find (has_name n) (weak_definitions L))) ≡ Some c →
      Contains (all_symbols L) c × (is_definition c ≡ true) × (has_name n c ≡ true)
  chosen_among c (Some d) p strong common is =
      let f = found_among is_strong c (strong ∙ is) in
      (f.0, ap (λ b. b || (is_common_definition c || is_weak_definition c)) f.1, f.2)
  chosen_among c None (Some d) strong common is =
      let f = found_among is_common_definition c (common ∙ is) in
      (f.0, or_right (is_strong c) (is_common_definition c || is_weak_definition c) (ap (λ b. b || is_weak_definition c) f.1), f.2)
  chosen_among c None None strong common is =
      let f = found_among is_weak_definition c is in (
        f.0,
        or_right (is_strong c) (is_common_definition c || is_weak_definition c) (or_right (is_common_definition c) (is_weak_definition c) f.1),
        f.2,
      )

  self_stands : (c : SymbolOf) → chosen L n ≡ Some c → Contains (all_symbols L) c × (stands c ≡ true)
  self_stands c is =
      let m = chosen_among c (find (has_name n) (strong_definitions L)) (find (has_name n) (common_symbols L)) refl refl is in
      let name : c.name ≡ n = (bytes_eq-Decides c.name n).0 m.2 in
      let own : is_chosen L c ≡ true =
      ap (λ (m : List ℕ). option_map_or (is_same_symbol c) (chosen L m) false) name
      ∙ ap (λ (o : Option SymbolOf). option_map_or (is_same_symbol c) o false) is
      ∙ ap (λ b. b && (c.number == c.number)) (eq-eqb c.object c.object refl)
      ∙ eq-eqb c.number c.number refl in
      (m.0, ap (λ b. b && (is_chosen L c && has_name n c)) m.1 ∙ ap (λ b. b && has_name n c) own ∙ m.2)

  by_choice :
      (o : Option SymbolOf) → chosen L n ≡ o →
      (count_by (has_name n) (chosen_symbols L) ≤ 1) × (find (has_name n) (chosen_symbols L) ≡ o)
  by_choice None is =
      let none = All-from_contains (λ s. stands s ≡ false) (all_symbols L) (λ s c. not_false (stands s) (λ t. false≢true (told_by None is s t))) in
      let count = absent_count stands (all_symbols L) none in
      let same = listed_count in
      (omega (arith, count, same), listed_found ∙ find-none stands (all_symbols L) none)
  by_choice (Some c) is =
      let few = count_le stands (is_numbered c.object c.number) (all_symbols L) (λ s t. told_by (Some c) is s t) in
      let one = one_of c.object c.number 0 L in
      let same = listed_count in
      let few_stand : count_by stands (all_symbols L) ≤ 1 = omega (arith, few, one) in
      let self = self_stands c is in
      let each = all_found stands (all_symbols L) few_stand in
      (omega (arith, few_stand, same), listed_found ∙ All-contains-of self.0 each self.1)
    where
      All-contains-of :
          Contains (all_symbols L) c → All (λ y. stands y ≡ true → find stands (all_symbols L) ≡ Some y) (all_symbols L) →
          stands c ≡ true → find stands (all_symbols L) ≡ Some c
      All-contains-of there each t = All-contains (λ y. stands y ≡ true → find stands (all_symbols L) ≡ Some y) (all_symbols L) c each there t

  abbrev names_any : List SymbolOf → Bool
  names_any ss = list_any (has_name n) ss

  -- the name is that of a definition where it is that of a strong, a common or a weak one
  any_definition : names_any (definitions L) ≡ (names_any (strong_definitions L) || (names_any (common_symbols L) || names_any (weak_definitions L)))
  any_definition =
      any_filter (has_name n) is_strong (λ s. is_common_definition s || is_weak_definition s) (all_symbols L)
      ∙ ap (λ b. names_any (strong_definitions L) || b) (any_filter (has_name n) is_common_definition is_weak_definition (all_symbols L))

  -- the name has a chosen definition where it is that of a definition
  pub chosen_defined : chosen L n ≢ None → list_any (has_name n) (definitions L) ≡ true
  chosen_defined some =
      any_definition
      ∙ by (find (has_name n) (strong_definitions L)) (find (has_name n) (common_symbols L)) refl refl some
    where
      by :
          (o p : Option SymbolOf) → find (has_name n) (strong_definitions L) ≡ o → find (has_name n) (common_symbols L) ≡ p →
          option_or o (option_or p (find (has_name n) (weak_definitions L))) ≢ None →
          (names_any (strong_definitions L) || (names_any (common_symbols L) || names_any (weak_definitions L))) ≡ true
      by (Some s) p strong common is =
          ap (λ b. b || (names_any (common_symbols L) || names_any (weak_definitions L)))
          (find_any (has_name n) (strong_definitions L) (λ none. none-some s (sym none ∙ strong)))
      by None (Some s) strong common is =
          or_right (names_any (strong_definitions L)) (names_any (common_symbols L) || names_any (weak_definitions L))
          (ap (λ b. b || names_any (weak_definitions L)) (find_any (has_name n) (common_symbols L) (λ none. none-some s (sym none ∙ common))))
      by None None strong common is =
          or_right (names_any (strong_definitions L)) (names_any (common_symbols L) || names_any (weak_definitions L))
          (or_right (names_any (common_symbols L)) (names_any (weak_definitions L)) (find_any (has_name n) (weak_definitions L) is))

  pub defined_chosen : list_any (has_name n) (definitions L) ≡ true → chosen L n ≢ None
  defined_chosen any none =
      by (find (has_name n) (strong_definitions L)) (find (has_name n) (common_symbols L)) refl refl none (sym any_definition ∙ any)
    where
      by :
          (o p : Option SymbolOf) → find (has_name n) (strong_definitions L) ≡ o → find (has_name n) (common_symbols L) ≡ p →
          option_or o (option_or p (find (has_name n) (weak_definitions L))) ≡ None →
          (names_any (strong_definitions L) || (names_any (common_symbols L) || names_any (weak_definitions L))) ≡ true → ⊥
      by (Some s) p strong common is t = none-some s (sym is)
      by None (Some s) strong common is t = none-some s (sym is)
      by None None strong common is t =
          any_find (has_name n) (weak_definitions L)
          (right_of (names_any (common_symbols L)) (names_any (weak_definitions L))
          (right_of (names_any (strong_definitions L)) (names_any (common_symbols L) || names_any (weak_definitions L)) t
          (none_any (has_name n) (strong_definitions L) strong))
          (none_any (has_name n) (common_symbols L) common)) is

  pub chosen_once : count_by (has_name n) (chosen_symbols L) ≤ 1
  chosen_once = (by_choice (chosen L n) refl).0

  pub chosen_listed : find (has_name n) (chosen_symbols L) ≡ chosen L n
  chosen_listed = (by_choice (chosen L n) refl).1

-- what holds of each element that passes a test
pub All-kept : {X : Type 0} (P : X → Type 0) (p : X → Bool) (xs : List X) → All P (filter p xs) → All (λ x. p x ≡ true → P x) xs
All-kept {X} P p xs all = All-from_contains (λ x. p x ≡ true → P x) xs (λ x c t. All-contains P (filter p xs) x all (Contains-filter p xs x c t))

count_le_in :
    {X : Type 0} (p q : X → Bool) (xs : List X) → All (λ x. p x ≡ true → q x ≡ true) xs → count_by p xs ≤ count_by q xs
count_le_in p q [] so = omega arith
count_le_in {X} p q (x ∷ xs) so =
    by (p x) refl (count_le_in p q xs (All-tail (λ (y : X). p y ≡ true → q y ≡ true) x xs so)) (All-head (λ (y : X). p y ≡ true → q y ≡ true) x xs so)
  where
    by : (b : Bool) → p x ≡ b → count_by p xs ≤ count_by q xs → (p x ≡ true → q x ≡ true) → count_by p (x ∷ xs) ≤ count_by q (x ∷ xs)
    by true e rest here =
        let m = counted p x xs in
        let n = counted q x xs in
        let a = ap {B = ℕ} (λ b. cond b 1 0) e in
        let b = ap {B = ℕ} (λ b. cond b 1 0) (here e) in
        omega (arith, m, n, a, b, rest)
    by false e rest here =
        let m = counted p x xs in
        let n = counted q x xs in
        let a = ap {B = ℕ} (λ b. cond b 1 0) e in
        omega (arith, m, n, a, rest)

module _ (L : List LoadedObject) where
  abbrev IsChosen : SymbolOf → Type 0
  IsChosen s = is_chosen L s ≡ true

  -- where no name has two strong definitions, each strong one is chosen, and the other way round
  pub all_chosen : AreUnique L → All IsChosen (strong_definitions L)
  all_chosen unique k d within =
      let S = strong_definitions L in
      let s = get_or S k d in
      let found : find (has_name s.name) S ≡ Some s =
      all_found (has_name s.name) S (unique s.name) k d within ((bytes_eq-Decides s.name s.name).1 refl) in
      ap (λ (o : Option SymbolOf). option_map_or (is_same_symbol s) (option_or o (option_or (find (has_name s.name) (common_symbols L)) (find (has_name s.name) (weak_definitions L)))) false) found
      ∙ ap (λ b. b && (s.number == s.number)) (eq-eqb s.object s.object refl)
      ∙ eq-eqb s.number s.number refl

  pub unique_from_chosen : All IsChosen (strong_definitions L) → AreUnique L
  unique_from_chosen all n =
      let one = count_filter is_strong (has_name n) (all_symbols L) in
      let less =
      count_le_in (λ s. is_strong s && has_name n s) (stands L n) (all_symbols L)
      (All-from_contains (λ s. (is_strong s && has_name n s) ≡ true → stands L n s ≡ true) (all_symbols L) (λ s c t.
      let parts = and_parts (is_strong s) (has_name n s) t in
      let chosen_too = All-contains IsChosen (strong_definitions L) s all (Contains-filter is_strong (all_symbols L) s c parts.0) in
      ap (λ b. (b || (is_common_definition s || is_weak_definition s)) && (is_chosen L s && has_name n s)) parts.0
      ∙ ap (λ b. b && has_name n s) chosen_too ∙ parts.1)) in
      let same = listed_count L n in
      let few = chosen_once L n in
      omega (arith, one, less, same, few)
