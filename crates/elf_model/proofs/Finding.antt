-- What a search in a list finds, and lists with one element that has a fact.
use Rattle.std.proofs.Common.{◌≡◌, suc, Bool, true, false, cond, List, [], ◌∷◌, refl, sym, ap, subst, arith}
use Rattle.std.specs.Prelude.{All, Any, Contains, Some, None, filter, find}
use Rattle.std.proofs.lemmas.List.Elements.{All-cons, All-head, All-nil, All-tail}
use Rattle.std.proofs.lemmas.Option.{none-some, same_Some}
use Rattle.elf_model.proofs.Listed.{Contains-there}

-- one element of a list that has a fact
pub Any-from_contains : {X : Type 0} (P : X → Type 0) (xs : List X) (x : X) → Contains xs x → P x → Any P xs
Any-from_contains P xs x c p = (c.0, x, c.1, c.2, p)

pub Any-here : {X : Type 0} (P : X → Type 0) (x : X) (xs : List X) → P x → Any P (x ∷ xs)
Any-here P x xs p = (0, x, omega arith, refl, p)

pub Any-there : {X : Type 0} (P : X → Type 0) (x : X) (xs : List X) → Any P xs → Any P (x ∷ xs)
Any-there P x xs a = (suc a.0, a.1, omega (arith, a.2), a.3, a.4)

-- what a search finds is in the list and passes
pub record IsFound {X : Type 0} (test : X → Bool) (xs : List X) (x : X) : Type 0 where
  pub there : Contains xs x
  pub passes : test x ≡ true

found_by :
    {X : Type 0} (test : X → Bool) (b : Bool) (y : X) (ys : List X) (x : X) → test y ≡ b →
    cond b (Some y) (find test ys) ≡ Some x → (find test ys ≡ Some x → IsFound test ys x) → IsFound test (y ∷ ys) x
found_by test true y ys x is e rest =
    let s : y ≡ x = same_Some y x e in
    record { there = (0, omega arith, s); passes = subst (λ z. test z ≡ true) s is }
found_by test false y ys x is e rest =
    let f : IsFound test ys x = rest e in
    record { there = Contains-there y ys x f.there; passes = f.passes }

pub find-found : {X : Type 0} (test : X → Bool) (xs : List X) (x : X) → find test xs ≡ Some x → IsFound test xs x
find-found test [] x e = absurd (none-some x e)
find-found test (y ∷ ys) x e = found_by test (test y) y ys x refl e (find-found test ys x)

-- where none passes, none is found
pub find-none : {X : Type 0} (test : X → Bool) (xs : List X) → All (λ x. test x ≡ false) xs → find test xs ≡ None
find-none test [] none = refl
find-none test (x ∷ xs) none =
    let e = All-head (λ y. test y ≡ false) x xs none in
    rw e (find-none test xs (All-tail (λ y. test y ≡ false) x xs none))

-- where none is found, none passes
pub none-passes : {X : Type 0} (test : X → Bool) (xs : List X) → find test xs ≡ None → All (λ x. test x ≡ false) xs
none-passes test [] e = All-nil (λ x. test x ≡ false)
none-passes {X} test (x ∷ xs) e = by (test x) refl e (none-passes test xs)
  where
    by :
        (b : Bool) → test x ≡ b → cond b (Some x) (find test xs) ≡ None → (find test xs ≡ None → All (λ y. test y ≡ false) xs) →
        All (λ y. test y ≡ false) (x ∷ xs)
    by true is f rest = absurd (none-some x (sym f))
    by false is f rest = All-cons (λ (y : X). test y ≡ false) x xs is (rest f)

-- a filter that all pass, and one that none passes
pub filter-all : {X : Type 0} (test : X → Bool) (xs : List X) → All (λ x. test x ≡ true) xs → filter test xs ≡ xs
filter-all test [] all = refl
filter-all {X} test (x ∷ xs) all =
    let e = All-head (λ y. test y ≡ true) x xs all in
    rw e (ap (λ (ys : List X). x ∷ ys) (filter-all test xs (All-tail (λ y. test y ≡ true) x xs all)))

pub filter-none : {X : Type 0} (test : X → Bool) (xs : List X) → All (λ x. test x ≡ false) xs → filter test xs ≡ []
filter-none test [] none = refl
filter-none test (x ∷ xs) none =
    let e = All-head (λ y. test y ≡ false) x xs none in
    rw e (filter-none test xs (All-tail (λ y. test y ≡ false) x xs none))
