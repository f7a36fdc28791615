-- Laws of every table of names: what offers leave of each name's row.
use Rattle.std.proofs.Common.{◌≡◌, ◌≢◌, ℕ, Bool, true, false, cond, List, [], ◌∷◌, ◌++◌, refl, sym, ◌∙◌, ap, Some, None, Option, true≢false}
use Rattle.std.specs.Prelude.{◌||◌, All, filter, is_some, map}
use Rattle.std.specs.List.{list_any}
use Rattle.std.specs.Str.{bytes_eq}
use Rattle.std.proofs.lemmas.Bool.{false_from_ne_true}
use Rattle.std.proofs.lemmas.List.Elements.{All-head, All-tail}
use Rattle.symbols.specs.Offers.{Offer, all_offered, all_taken, candidates_of, is_for, row_of}
use Rattle.symbols.specs.Rows.{Rows, no_rows, offered, taken}
use Rattle.symbols.specs.declared.candidate.Candidate.{Candidate}
use Rattle.symbols.specs.declared.row.Row.{Row}
use Rattle.symbols.proofs.NameRows.{name_itself, same_name, same_rows}

-- names that differ
pub other_name : (a b : List ℕ) → a ≢ b → bytes_eq a b ≡ false
other_name a b differ = false_from_ne_true (bytes_eq a b) (λ t. differ (same_name a b t))

-- the row of the offered name has taken the candidate in
pub offered-same : (name : List ℕ) (c : Candidate) (rows : Rows) → offered name c rows name ≡ Some (taken c (rows name))
offered-same name c rows = ap (λ b. cond b (Some (taken c (rows name))) (rows name)) (name_itself name)

-- the row of every other name is as before
pub offered-other : (name other : List ℕ) (c : Candidate) (rows : Rows) → name ≢ other → offered name c rows other ≡ rows other
offered-other name other c rows differ = ap (λ b. cond b (Some (taken c (rows name))) (rows other)) (other_name name other differ)

exchanged : (p q : Bool) (x y : Row) (o : Option Row) → (p ≡ true → q ≡ false) → cond p (Some x) (cond q (Some y) o) ≡ cond q (Some y) (cond p (Some x) o)
exchanged true true x y o apart = absurd (true≢false (apart refl))
exchanged true false x y o apart = refl
exchanged false true x y o apart = refl
exchanged false false x y o apart = refl

-- offers for two different names can be exchanged
pub offered-exchanged : (a b : List ℕ) (c d : Candidate) (rows : Rows) → a ≢ b → offered a c (offered b d rows) ≡ offered b d (offered a c rows)
offered-exchanged a b c d rows differ =
    same_rows (λ n.
    let p = bytes_eq a n in
    let q = bytes_eq b n in
    let apart : p ≡ true → q ≡ false = λ t. other_name b n (λ e. differ (same_name a n t ∙ sym e)) in
    ap (λ o. cond p (Some (taken c o)) (offered b d rows n)) (offered-other b a d rows (λ e. differ (sym e)))
    ∙ exchanged p q (taken c (rows a)) (taken d (rows b)) (rows n) apart
    ∙ ap (λ o. cond q (Some (taken d o)) (offered a c rows n)) (sym (offered-other a b c rows differ)))

-- offers behind offers
pub all_offered-append : (xs ys : List Offer) (rows : Rows) → all_offered (xs ++ ys) rows ≡ all_offered ys (all_offered xs rows)
all_offered-append [] ys rows = refl
all_offered-append (x ∷ xs) ys rows = all_offered-append xs ys (offered x.name x.candidate rows)

-- after offers the row of a name has taken in its candidates, in order
pub all_offered-name : (offers : List Offer) (rows : Rows) (name : List ℕ) → all_offered offers rows name ≡ all_taken (candidates_of name offers) (rows name)
all_offered-name [] rows name = refl
all_offered-name (o ∷ os) rows name = all_offered-name os (offered o.name o.candidate rows) name ∙ by (bytes_eq o.name name) refl
  where
    by : (b : Bool) → bytes_eq o.name name ≡ b →
        all_taken (candidates_of name os) (cond (bytes_eq o.name name) (Some (taken o.candidate (rows o.name))) (rows name))
        ≡ all_taken (map (λ x. x.candidate) (cond (bytes_eq o.name name) (o ∷ filter (is_for name) os) (filter (is_for name) os))) (rows name)
    by true is = rw is (ap (λ n. all_taken (candidates_of name os) (Some (taken o.candidate (rows n)))) (same_name o.name name is))
    by false is = rw is refl

-- a table that began empty has, after offers, the row of each name
pub all_offered-row_of : (offers : List Offer) → all_offered offers no_rows ≡ row_of offers
all_offered-row_of offers = same_rows (λ name. all_offered-name offers no_rows name)

-- what offers leave of a name's row, behind other offers
pub row_of-append : (xs ys : List Offer) (name : List ℕ) → row_of (xs ++ ys) name ≡ all_taken (candidates_of name ys) (row_of xs name)
row_of-append xs ys name =
    sym (all_offered-name (xs ++ ys) no_rows name)
    ∙ ap (λ (rows : Rows). rows name) (all_offered-append xs ys no_rows)
    ∙ all_offered-name ys (all_offered xs no_rows) name
    ∙ ap (λ o. all_taken (candidates_of name ys) o) (all_offered-name xs no_rows name)

-- a name that was never offered has no row
pub row_of-none : (offers : List Offer) (name : List ℕ) → All (λ o. o.name ≢ name) offers → row_of offers name ≡ None
row_of-none [] name never = refl
row_of-none (o ∷ os) name never =
    let head = other_name o.name name (All-head (λ (x : Offer). x.name ≢ name) o os never) in
    let rest = row_of-none os name (All-tail (λ (x : Offer). x.name ≢ name) o os never) in
    ap (λ b. all_taken (map (λ x. x.candidate) (cond b (o ∷ filter (is_for name) os) (filter (is_for name) os))) None) head ∙ rest

taken-some : (cs : List Candidate) (row : Row) → is_some (all_taken cs (Some row)) ≡ true
taken-some [] row = refl
taken-some (c ∷ cs) row = taken-some cs (taken c (Some row))

-- the names that have rows are those that were offered
pub is_some-row_of : (offers : List Offer) (name : List ℕ) → is_some (row_of offers name) ≡ list_any (is_for name) offers
is_some-row_of [] name = refl
is_some-row_of (o ∷ os) name = by (bytes_eq o.name name) refl (is_some-row_of os name)
  where
    by : (b : Bool) → bytes_eq o.name name ≡ b → is_some (row_of os name) ≡ list_any (is_for name) os →
        is_some (all_taken (map (λ x. x.candidate) (cond (bytes_eq o.name name) (o ∷ filter (is_for name) os) (filter (is_for name) os))) None)
        ≡ (bytes_eq o.name name || list_any (is_for name) os)
    by true is rest = rw is (taken-some (candidates_of name os) (taken o.candidate None))
    by false is rest = rw is rest
