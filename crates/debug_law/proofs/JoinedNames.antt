-- What is joined of a name, among others, and with one more section.
use Rattle.std.proofs.Common.{◌≡◌, ◌∙◌, ℕ, List, [], ◌∷◌, ap, refl, sym}
use Rattle.std.specs.Prelude.{All, Bool, None, Option, Some, cond, false, find, true, unwrap_or}
use Rattle.std.proofs.Common.{get_or}
use Rattle.std.proofs.lemmas.Bool.{false≢true}
use Rattle.std.specs.Str.{bytes_eq}
use Rattle.std.proofs.lemmas.List.Elements.{All-cons, All-nil}
use Rattle.std.proofs.lemmas.Option.{none-some, same_Some}
use Rattle.std.proofs.lemmas.Slice.Eq.{bytes_eq-Decides}
use Rattle.elf_model.specs.Link.Pieces.{Piece}
use Rattle.debug_image.specs.DebugSections.{Joined, empty, grown, is_joined_of, joined_all, joined_with, named, replaced}

pub own_name : (a : List ℕ) → bytes_eq a a ≡ true
own_name a = (bytes_eq-Decides a a).1 refl

pub same_name : (a b : List ℕ) → bytes_eq a b ≡ true → a ≡ b
same_name a b e = (bytes_eq-Decides a b).0 e

-- in both cases of a test
pub both : (P : Bool → Type 0) (b : Bool) → ((b ≡ true) → P true) → ((b ≡ false) → P false) → P b
both P true p q = p refl
both P false p q = q refl

abbrev pub found : List Joined → List ℕ → Option Joined
found js n = find (is_joined_of n) js

pub found_own : (js : List Joined) (j : Joined) → found (replaced js j) j.title ≡ Some j
found_own [] j = ap (λ b. cond b (Some j) None) (own_name j.title)
found_own (i ∷ is) j =
    both (λ b. found (cond b (j ∷ is) (i ∷ replaced is j)) j.title ≡ Some j) (bytes_eq i.title j.title)
    (λ e. ap (λ b. cond b (Some j) (found is j.title)) (own_name j.title))
    (λ e. ap (λ b. cond b (Some i) (found (replaced is j) j.title)) e ∙ found_own is j)

pub found_other : (js : List Joined) (j : Joined) (n : List ℕ) → bytes_eq j.title n ≡ false → found (replaced js j) n ≡ found js n
found_other [] j n other = ap (λ b. cond b (Some j) None) other
found_other (i ∷ is) j n other =
    both (λ b. found (cond b (j ∷ is) (i ∷ replaced is j)) n ≡ found (i ∷ is) n) (bytes_eq i.title j.title)
    (λ e.
    let here : bytes_eq i.title n ≡ false = ap (λ t. bytes_eq t n) (same_name i.title j.title e) ∙ other in
    ap (λ b. cond b (Some j) (found is n)) other ∙ sym (ap (λ b. cond b (Some i) (found is n)) here))
    (λ e. ap (λ o. cond (bytes_eq i.title n) (Some i) o) (found_other is j n other))

-- no two have one name
abbrev pub AreApart : List Joined → Type 0
AreApart [] = Unit {0}
AreApart (i ∷ is) = (found is i.title ≡ None) × AreApart is

other_way : (a b : List ℕ) → bytes_eq a b ≡ false → bytes_eq b a ≡ false
other_way a b e =
    both (λ t. bytes_eq b a ≡ t → bytes_eq b a ≡ false) (bytes_eq b a)
    (λ t u. absurd (false≢true (sym e ∙ (ap (bytes_eq a) (same_name b a t) ∙ own_name a))))
    (λ f u. f) refl

pub apart_replaced : (js : List Joined) (j : Joined) → AreApart js → AreApart (replaced js j)
apart_replaced [] j apart = (refl, tt)
apart_replaced (i ∷ is) j apart =
    both (λ b. AreApart (cond b (j ∷ is) (i ∷ replaced is j))) (bytes_eq i.title j.title)
    (λ e. (ap (found is) (sym (same_name i.title j.title e)) ∙ apart.0, apart.1))
    (λ e. (found_other is j i.title (other_way i.title j.title e) ∙ apart.0, apart_replaced is j apart.1))

-- what has a name is found by it
pub found_all : (js : List Joined) → AreApart js → All (λ j. found js j.title ≡ Some j) js
found_all [] apart = All-nil (λ j. found [] j.title ≡ Some j)
found_all (i ∷ is) apart =
    All-cons (λ j. found (i ∷ is) j.title ≡ Some j) i is (ap (λ b. cond b (Some i) (found is i.title)) (own_name i.title))
    (λ k d lt.
    let j : Joined = get_or is k d in
    let there : found is j.title ≡ Some j = found_all is apart.1 k d lt in
    both (λ b. cond b (Some i) (found is j.title) ≡ Some j) (bytes_eq i.title j.title)
    (λ e. absurd (none-some j (sym apart.0 ∙ (ap (found is) (same_name i.title j.title e) ∙ there))))
    (λ e. there))

-- the name of what is joined of a name
found_named : (js : List Joined) (n : List ℕ) (j : Joined) → found js n ≡ Some j → bytes_eq j.title n ≡ true
found_named [] n j e = absurd (none-some j e)
found_named (i ∷ is) n j e =
    both (λ b. bytes_eq i.title n ≡ b → cond b (Some i) (found is n) ≡ Some j → bytes_eq j.title n ≡ true) (bytes_eq i.title n)
    (λ t u f. ap (λ (k : Joined). bytes_eq k.title n) (sym (same_Some i j f)) ∙ t)
    (λ t u f. found_named is n j f) refl e

title_of : (o : Option Joined) (n : List ℕ) → ((j : Joined) → o ≡ Some j → bytes_eq j.title n ≡ true) → (unwrap_or o (empty n)).title ≡ n
title_of None n is = refl
title_of (Some j) n is = same_name j.title n (is j refl)

pub named_title : (js : List Joined) (n : List ℕ) → (named js n).title ≡ n
named_title js n = title_of (found js n) n (found_named js n)

-- with one more section: what is joined of its name, and of another one
pub joined_own : (js : List Joined) (p : Piece) → found (joined_with js p) p.name ≡ Some (grown (named js p.name) p)
joined_own js p =
    let j : Joined = grown (named js p.name) p in
    ap (found (replaced js j)) (sym (named_title js p.name)) ∙ found_own js j

pub joined_other : (js : List Joined) (p : Piece) (n : List ℕ) → bytes_eq p.name n ≡ false → found (joined_with js p) n ≡ found js n
joined_other js p n other = found_other js (grown (named js p.name) p) n (ap (λ t. bytes_eq t n) (named_title js p.name) ∙ other)

pub apart_with : (js : List Joined) (p : Piece) → AreApart js → AreApart (joined_with js p)
apart_with js p apart = apart_replaced js (grown (named js p.name) p) apart

pub apart_all : (js : List Joined) (ps : List Piece) → AreApart js → AreApart (joined_all js ps)
apart_all js [] apart = apart
apart_all js (p ∷ ps) apart = apart_all (joined_with js p) ps (apart_with js p apart)
