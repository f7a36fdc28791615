-- The names of entries, one more at a time, and the entries in any order.
use Rattle.std.proofs.Common.{◌≡◌, ◌∙◌, ℕ, ◌+◌, ◌<◌, ◌≤◌, Bool, true, false, cond, ◌||◌, List, [], ◌∷◌, ◌++◌, length, get_or, take, drop, Option, refl, sym, ap, subst}
use Rattle.std.specs.Prelude.{Any, Contains, IsPermutation, is_some}
use Rattle.std.specs.List.{list_any, position, position_or_len}
use Rattle.std.specs.Str.{bytes_eq}
use Rattle.std.proofs.Math.Bool.{or_comm}
use Rattle.std.proofs.lemmas.Bool.{or_left}
use Rattle.std.proofs.lemmas.List.{drop_all, take-append-drop, take_all}
use Rattle.std.proofs.lemmas.List.Folds.{list_any-append, list_any-from_Any}
use Rattle.std.proofs.lemmas.List.Sorted.{list_any-IsPermutation}
use Rattle.std.proofs.lemmas.Slice.Eq.{bytes_eq-Decides}
use Rattle.byteview.specs.Numbers.{is_nul, part, text}
use Rattle.elf_model.specs.declared.records.Symbol.{Symbol}
use Rattle.check_load.proofs.NotedNames.{any_more, stepped}
use Rattle.check_load.proofs.Numbering.{among_with, found_none, found_number}
use Rattle.check_load.specs.NameNumbers.{is_among, with_name}
use Rattle.symbol_judge.specs.Names.{IsNoted, is_name_of}

-- a text that no NUL ends reaches to the end
pub text_whole : (bytes : List ℕ) (at : ℕ) → length (drop at bytes) ≤ position_or_len is_nul (drop at bytes) → length (drop at bytes) ≤ length bytes → part bytes at (length bytes) ≡ text bytes at
text_whole bytes at none short =
    take_all (length bytes) (drop at bytes) short ∙ sym (take_all (position_or_len is_nul (drop at bytes)) (drop at bytes) none)

-- names that have a name, and one more
pub noted_again :
    (strings : List ℕ) (names : List (List ℕ)) (offset : ℕ) → IsNoted strings names offset → (n : List ℕ) →
    is_among names n ≡ (bytes_eq n (text strings offset) || is_among names n)
noted_again strings names offset noted n = by (bytes_eq n (text strings offset)) refl
  where
    by : (b : Bool) → bytes_eq n (text strings offset) ≡ b → is_among names n ≡ (b || is_among names n)
    by true e = subst (λ (m : List ℕ). is_among names m ≡ true) (sym ((bytes_eq-Decides n (text strings offset)).0 e)) noted.noted
    by false e = refl

-- a name that is put behind names is the only one more
among_behind : (names : List (List ℕ)) (x n : List ℕ) → is_among (names ++ x ∷ []) n ≡ (bytes_eq n x || is_among names n)
among_behind [] x n = refl
among_behind (m ∷ ms) x n = ap (λ (b : Bool). bytes_eq n m || b) (among_behind ms x n) ∙ by (bytes_eq n m) (bytes_eq n x)
  where
    by : (a b : Bool) → (a || (b || is_among ms n)) ≡ (b || (a || is_among ms n))
    by true true = refl
    by true false = refl
    by false true = refl
    by false false = refl

pub noted_more : (names : List (List ℕ)) (x n : List ℕ) → is_among (with_name names x) n ≡ (bytes_eq n x || is_among names n)
noted_more names x n = by (is_among names x) refl
  where
    there : is_among names x ≡ true → (b : Bool) → bytes_eq n x ≡ b → is_among names n ≡ (b || is_among names n)
    there t true e = subst (λ (m : List ℕ). is_among names m ≡ true) (sym ((bytes_eq-Decides n x).0 e)) t
    there t false e = refl

    by : (b : Bool) → is_among names x ≡ b → is_among (cond b names (names ++ x ∷ [])) n ≡ (bytes_eq n x || is_among names n)
    by true t = there t (bytes_eq n x) refl
    by false t = among_behind names x n

pub noted_now : (strings : List ℕ) (names later : List (List ℕ)) (offset : ℕ) → later ≡ with_name names (text strings offset) → IsNoted strings later offset
noted_now strings names later offset added = record {
  noted = subst (λ (ns : List (List ℕ)). is_among ns (text strings offset) ≡ true) (sym added) (among_with names (text strings offset));
}

-- the step of the loop over entries, and its end
pub entry_noted :
    (strings n : List ℕ) (es : List Symbol) (i : ℕ) (d : Symbol) (old new total : Bool) → i < length es →
    new ≡ (bytes_eq n (text strings (get_or es i d).st_name) || old) →
    (list_any (is_name_of strings n) (drop i es) || old) ≡ total → (list_any (is_name_of strings n) (drop (i + 1) es) || new) ≡ total
entry_noted strings n es i d old new total within next is =
    stepped (list_any (is_name_of strings n) (drop i es)) (bytes_eq n (text strings (get_or es i d).st_name))
    (list_any (is_name_of strings n) (drop (i + 1) es)) old new total (any_more (is_name_of strings n) es i d within) next is

pub all_noted :
    (strings n : List ℕ) (es : List Symbol) (i : ℕ) (old total : Bool) → length es ≤ i →
    (list_any (is_name_of strings n) (drop i es) || old) ≡ total → old ≡ total
all_noted strings n es i old total past is =
    sym (ap (λ (xs : List Symbol). list_any (is_name_of strings n) xs || old) (drop_all i es past)) ∙ is

-- The names of a first entry and of the others in any order are those of all.
module _ (strings : List ℕ) (names : List (List ℕ)) (es first rest others : List Symbol) (first_is : first ≡ take 1 es) (rest_is : rest ≡ drop 1 es) (same : IsPermutation rest others) (among : (n : List ℕ) → is_among names n ≡ (list_any (is_name_of strings n) others || list_any (is_name_of strings n) first)) where
  parts : first ++ rest ≡ es
  parts = ap (λ (xs : List Symbol). xs ++ rest) first_is ∙ (ap (λ (xs : List Symbol). take 1 es ++ xs) rest_is ∙ take-append-drop 1 es)

  pub among_all : (n : List ℕ) → is_among names n ≡ list_any (is_name_of strings n) es
  among_all n =
      let test = is_name_of strings n in
      among n
      ∙ (ap (λ (b : Bool). b || list_any test first) (sym (list_any-IsPermutation test rest others same))
      ∙ (or_comm (list_any test rest) (list_any test first)
      ∙ (sym (list_any-append test first rest) ∙ ap (list_any test) parts)))

  -- so the names of all of these are among them
  pub own_among : (e : Symbol) → Contains others e → is_among names (text strings e.st_name) ≡ true
  own_among e (i, low, is) =
      let n = text strings e.st_name in
      let own : is_name_of strings n e ≡ true = (bytes_eq-Decides n n).1 refl in
      let some : Any (λ x. is_name_of strings n x ≡ true) others = (i, e, low, is, own) in
      among n ∙ or_left (list_any (is_name_of strings n) others) (list_any (is_name_of strings n) first) (list_any-from_Any (is_name_of strings n) others some)

-- whether a search finds a name
pub some_number : (names : List (List ℕ)) (n : List ℕ) → is_some (position (bytes_eq n) names) ≡ is_among names n
some_number names n = by (is_among names n) refl
  where
    by : (b : Bool) → is_among names n ≡ b → is_some (position (bytes_eq n) names) ≡ is_among names n
    by true there = ap (λ (o : Option ℕ). is_some o) (found_number names n there) ∙ sym there
    by false past = ap (λ (o : Option ℕ). is_some o) (found_none names n past) ∙ sym past
