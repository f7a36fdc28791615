-- The rows of names in a list, after one of them is changed or a name is added.
use Rattle.std.proofs.Common.{◌≡◌, ℕ, zero, suc, ◌+◌, ◌<◌, ◌≤◌, Bool, true, false, cond, not, List, [], ◌∷◌, ◌++◌, length, get_or, set, take, drop, refl, sym, ◌∙◌, ap, subst, arith, true≢false, Some, None, Option}
use Rattle.std.proofs.Math.Seq.{drop-cons}
use Rattle.std.proofs.lemmas.Bool.{ltb-true, not-false}
use Rattle.std.proofs.lemmas.Bool.Decides.{nat_tests}
use Rattle.std.proofs.lemmas.List.{append-nil, set_split, take-append-drop, take_all}
use Rattle.std.proofs.lemmas.List.Sums.{prefix_len_stops}
use Rattle.std.proofs.lemmas.Option.{cond_some}
use Rattle.std.proofs.lemmas.Slice.Eq.{bytes_eq-Decides}
use Rattle.std.specs.Cmp.Lexicographic.{nat_list_eq_equiv}
use Rattle.std.specs.List.{position_or_len}
use Rattle.std.specs.Prelude.{nat_lt}
use Rattle.std.specs.Str.{bytes_eq}
use Rattle.elf_model.specs.declared.name.Name.{Name}
use Rattle.symbols.specs.Lists.{HasNamesOnce, NamedRow, place_in, row_in}
use Rattle.symbols.specs.Rows.{Rows, no_row, offered, taken, taken_in}
use Rattle.symbols.specs.declared.candidate.Candidate.{Candidate}
use Rattle.symbols.specs.declared.row.Row.{Row}

-- two maps that agree on each name are equal
pub same_rows : {f g : Rows} → ((name : List ℕ) → f name ≡ g name) → f ≡ g
same_rows h j name = h name j

pub same_name : (a b : List ℕ) → bytes_eq a b ≡ true → a ≡ b
same_name a b t = (bytes_eq-Decides a b).0 t

pub name_itself : (a : List ℕ) → bytes_eq a a ≡ true
name_itself a = (bytes_eq-Decides a a).1 refl

-- whether two names are equal, the other way round
pub names_swapped : (a b : List ℕ) → bytes_eq a b ≡ bytes_eq b a
names_swapped a b = nat_list_eq_equiv.symm a b

-- nothing is found behind what doesn't pass, if nothing is found
none_first : (b : Bool) (x : Row) (o : Option Row) → cond b (Some x) o ≡ None → (b ≡ false) × (o ≡ None)
none_first true x o e = absurd (let f : Some x ≡ None = e in cc)
none_first false x o e = (refl, e)

-- one entry more in front, of another name
passed_by :
    (p q : Bool) (x row : Row) (u v : Option Row) → u ≡ cond q (Some row) v → (q ≡ true → p ≡ false) →
    cond p (Some x) u ≡ cond q (Some row) (cond p (Some x) v)
passed_by true true x row u v e h = absurd (true≢false (h refl))
passed_by true false x row u v e h = refl
passed_by false true x row u v e h = e
passed_by false false x row u v e h = e

-- an entry whose name doesn't stand before it gives the row of this name, and of no other
row_at :
    (front back : List NamedRow) (name : List ℕ) (k : Name) (row : Row) (other : List ℕ) →
    name ≡ k.0.now → row_in front name ≡ None →
    row_in (front ++ (k, row) ∷ back) other ≡ cond (bytes_eq name other) (Some row) (row_in (front ++ back) other)
row_at [] back name k row other e none =
    ap (λ b. cond b (Some row) (row_in back other)) (names_swapped other k.0.now ∙ ap (λ n. bytes_eq n other) (sym e))
row_at (f ∷ fs) back name k row other e none =
    let h = none_first (bytes_eq name f.0.0.now) f.1 (row_in fs name) none in
    passed_by (bytes_eq other f.0.0.now) (bytes_eq name other) f.1 row (row_in (fs ++ (k, row) ∷ back) other) (row_in (fs ++ back) other)
    (row_at fs back name k row other e h.1)
    (λ t. sym (ap (λ n. bytes_eq n f.0.0.now) (same_name name other t)) ∙ h.0)

-- a list's entry in its place
split_at : (rows : List NamedRow) (i : ℕ) (e : NamedRow) → i < length rows → e ≡ get_or rows i e → rows ≡ take i rows ++ e ∷ drop (suc i) rows
split_at rows i e within is =
    sym (take-append-drop i rows) ∙ ap (λ back. take i rows ++ back) (drop-cons rows i e within)
    ∙ ap (λ x. take i rows ++ x ∷ drop (suc i) rows) (sym is)

-- a place of a name, before which it doesn't stand
pub record IsPlace (rows : List NamedRow) (name : List ℕ) (i : ℕ) : Type 0 where
  pub within : i < length rows
  pub before : row_in (take i rows) name ≡ None
  pub there : (d : NamedRow) → name ≡ (get_or rows i d).0.0.now

-- the first place of a name, the list's length where it hasn't got it
abbrev first_place : List NamedRow → List ℕ → ℕ
first_place rows name = position_or_len (λ e. bytes_eq name e.0.0.now) rows

-- the name doesn't stand before its first place
none_before : (rows : List NamedRow) (name : List ℕ) → row_in (take (first_place rows name) rows) name ≡ None
none_before [] name = refl
none_before (e ∷ es) name = by (bytes_eq name e.0.0.now) refl (none_before es name)
  where
    by : (b : Bool) → bytes_eq name e.0.0.now ≡ b → row_in (take (first_place es name) es) name ≡ None → row_in (take (cond (not b) (1 + first_place es name) 0) (e ∷ es)) name ≡ None
    by true is rest = refl
    by false is rest =
        let more : 1 + first_place es name ≡ suc (first_place es name) = omega arith in
        rw more (ap (λ b. cond b (Some e.1) (row_in (take (first_place es name) es) name)) is ∙ rest)

pub place_is : (rows : List NamedRow) (name : List ℕ) (i : ℕ) → place_in rows name ≡ Some i → IsPlace rows name i
place_is rows name i is =
    let p = first_place rows name in
    let found = cond_some (nat_lt p (length rows)) p i is in
    let below = ltb-true p (length rows) found.0 in
    subst (λ k. IsPlace rows name k) found.1 (record {
      within = below;
      before = none_before rows name;
      there = λ d.
          let stops = prefix_len_stops (λ e. not (bytes_eq name e.0.0.now)) rows d below in
          same_name name (get_or rows p d).0.0.now (not-false (bytes_eq name (get_or rows p d).0.0.now) stops);
    })

none_past : (b : Bool) (i : ℕ) → cond b (Some i) None ≡ None → b ≡ false
none_past true i is = absurd (let f : Some i ≡ None = is in cc)
none_past false i is = refl

-- a name without a place has no row
pub place_none : (rows : List NamedRow) (name : List ℕ) → place_in rows name ≡ None → row_in rows name ≡ None
place_none rows name is =
    let p = first_place rows name in
    let past = none_past (nat_lt p (length rows)) p is in
    let all : length rows ≤ p = grind (arith, nat_tests) in
    sym (ap (λ es. row_in es name) (take_all p rows all)) ∙ none_before rows name

-- the row of a name is that at its place
pub row_found : (rows : List NamedRow) (name : List ℕ) (i : ℕ) (e : NamedRow) → place_in rows name ≡ Some i → e ≡ get_or rows i e → row_in rows name ≡ Some e.1
row_found rows name i e is there =
    let at = place_is rows name i is in
    let front = take i rows in
    let back = drop (suc i) rows in
    ap (λ es. row_in es name) (split_at rows i e at.within there)
    ∙ row_at front back name e.0 e.1 name (at.there e ∙ ap (λ (x : NamedRow). x.0.0.now) (sym there)) at.before
    ∙ ap (λ b. cond b (Some e.1) (row_in (front ++ back) name)) (name_itself name)

-- one row written over another
over : (b : Bool) (new old : Row) (o : Option Row) → cond b (Some new) o ≡ cond b (Some new) (cond b (Some old) o)
over true new old o = refl
over false new old o = refl

-- a candidate taken in at the place of its name
pub set_offered :
    (rows : List NamedRow) (name : List ℕ) (c : Candidate) (i : ℕ) (e : NamedRow) (row : Row) →
    place_in rows name ≡ Some i → e ≡ get_or rows i e → row ≡ taken_in c e.1 →
    row_in (set rows i (e.0, row)) ≡ offered name c (row_in rows)
set_offered rows name c i e row is there taken_is =
    let at = place_is rows name i is in
    let front = take i rows in
    let back = drop (suc i) rows in
    let same : name ≡ e.0.0.now = at.there e ∙ ap (λ (x : NamedRow). x.0.0.now) (sym there) in
    let row_is : row ≡ taken c (row_in rows name) = taken_is ∙ ap (λ r. taken c r) (sym (row_found rows name i e is there)) in
    same_rows (λ n.
    let b = bytes_eq name n in
    ap (λ es. row_in es n) (set_split rows i (e.0, row) at.within)
    ∙ row_at front back name e.0 row n same at.before
    ∙ over b row e.1 (row_in (front ++ back) n)
    ∙ ap (λ o. cond b (Some row) o) (sym (row_at front back name e.0 e.1 n same at.before))
    ∙ ap (λ es. cond b (Some row) (row_in es n)) (sym (split_at rows i e at.within there))
    ∙ ap (λ r. cond b (Some r) (row_in rows n)) row_is)

-- a name put at the end with its candidate
pub push_offered :
    (rows : List NamedRow) (k : Name) (c : Candidate) (row : Row) →
    place_in rows k.0.now ≡ None → row ≡ taken_in c no_row →
    row_in (rows ++ (k, row) ∷ []) ≡ offered k.0.now c (row_in rows)
push_offered rows k c row is taken_is =
    let none = place_none rows k.0.now is in
    let row_is : row ≡ taken c (row_in rows k.0.now) = taken_is ∙ ap (λ r. taken c r) (sym none) in
    same_rows (λ n.
    row_at rows [] k.0.now k row n refl none
    ∙ ap (λ es. cond (bytes_eq k.0.now n) (Some row) (row_in es n)) (append-nil rows)
    ∙ ap (λ r. cond (bytes_eq k.0.now n) (Some r) (row_in rows n)) row_is)

-- a changed row leaves the names
other_none : (rows : List NamedRow) (i : ℕ) (e : NamedRow) (row : Row) (name : List ℕ) → e ≡ get_or rows i e → row_in rows name ≡ None → row_in (set rows i (e.0, row)) name ≡ None
other_none [] i e row name is none = none
other_none (x ∷ xs) zero e row name is none =
    let h = none_first (bytes_eq name x.0.0.now) x.1 (row_in xs name) none in
    let same : bytes_eq name e.0.0.now ≡ false = ap (λ (y : NamedRow). bytes_eq name y.0.0.now) is ∙ h.0 in
    ap (λ b. cond b (Some row) (row_in xs name)) same ∙ h.1
other_none (x ∷ xs) (suc i) e row name is none =
    let h = none_first (bytes_eq name x.0.0.now) x.1 (row_in xs name) none in
    ap (λ b. cond b (Some x.1) (row_in (set xs i (e.0, row)) name)) h.0 ∙ other_none xs i e row name is h.1

pub set_once : (rows : List NamedRow) (i : ℕ) (e : NamedRow) (row : Row) → e ≡ get_or rows i e → HasNamesOnce rows → HasNamesOnce (set rows i (e.0, row))
set_once [] i e row is once = once
set_once (x ∷ xs) zero e row is once = (ap (λ (y : NamedRow). row_in xs y.0.0.now) is ∙ once.0, once.1)
set_once (x ∷ xs) (suc i) e row is once = (other_none xs i e row x.0.0.now is once.0, set_once xs i e row is once.1)

-- a new name at the end stands once
pub push_once : (rows : List NamedRow) (k : Name) (row : Row) → row_in rows k.0.now ≡ None → HasNamesOnce rows → HasNamesOnce (rows ++ (k, row) ∷ [])
push_once [] k row none once = (refl, tt)
push_once (x ∷ xs) k row none once =
    let h = none_first (bytes_eq k.0.now x.0.0.now) x.1 (row_in xs k.0.now) none in
    let behind : row_in (xs ++ (k, row) ∷ []) x.0.0.now ≡ None =
    row_at xs [] k.0.now k row x.0.0.now refl h.1
    ∙ ap (λ b. cond b (Some row) (row_in (xs ++ []) x.0.0.now)) h.0
    ∙ ap (λ es. row_in es x.0.0.now) (append-nil xs) ∙ once.0 in
    (behind, push_once xs k row h.1 once.1)
