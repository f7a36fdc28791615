-- The numbers of the names of objects' symbols, as names come one by one.
use Rattle.std.proofs.Common.{◌≡◌, ℕ, zero, suc, ◌+◌, ◌⊎◌, inl, inr, List, [], ◌∷◌, ◌++◌, length, length-append, Option, Some, None, refl, sym, ap, subst, ◌∙◌}
use Rattle.std.specs.Prelude.{IfSome}
use Rattle.std.specs.List.{position}
use Rattle.std.specs.Str.{bytes_eq}
use Rattle.std.proofs.lemmas.List.Elements.{All-nil, All-push, All-weaker}
use Rattle.std.proofs.lemmas.Option.{none-some}
use Rattle.check_load.specs.NameNumbers.{IsNumberOf, KeepNumbers, number_of, with_name}
use Rattle.check_load.specs.Numbered.{AreNumbered, AreNumbersOf, HasOneMore, IsNumbered, name_at, number_in}
use Rattle.check_load.specs.declared.loaded.Loaded.{Loaded}
use Rattle.check_load.proofs.Numbering.{among_with, found_number, kept_with, number_with}

-- a name that came has its number, and those before it theirs
pub numbered_with : (old new : List (List ℕ)) (name : List ℕ) (k : ℕ) → new ≡ with_name old name → k ≡ number_of old name → IsNumberOf new name k
numbered_with old new name k comes is = record {
  found =
      ap (λ (ns : List (List ℕ)). position (bytes_eq name) ns) comes
      ∙ (found_number (with_name old name) name (among_with old name) ∙ ap Some (number_with old name ∙ sym is));
}

pub kept_by : (old new : List (List ℕ)) (name : List ℕ) → new ≡ with_name old name → KeepNumbers old new
kept_by old new name comes = record {
  keep = λ n k is. record { found = ap (λ (ns : List (List ℕ)). position (bytes_eq n) ns) comes ∙ kept_with old name n k is.found };
}

pub kept_all : (names : List (List ℕ)) → KeepNumbers names names
kept_all names = record { keep = λ n k is. is }

pub kept_on : (a b c : List (List ℕ)) → KeepNumbers a b → KeepNumbers b c → KeepNumbers a c
kept_on a b c first second = record { keep = λ n k is. second.keep n k (first.keep n k is) }

-- what is known stays known as names come
pub still_numbers : (old new : List (List ℕ)) (bytes : List ℕ) (numbers : List (Option ℕ)) → KeepNumbers old new → AreNumbersOf old bytes numbers → AreNumbersOf new bytes numbers
still_numbers old new bytes numbers kept are = record { each = λ j k is. kept.keep (name_at bytes j) k (are.each j k is) }

pub still_numbered : (old new : List (List ℕ)) (ls : List Loaded) → KeepNumbers old new → AreNumbered old ls → AreNumbered new ls
still_numbered old new ls kept are = All-weaker (IsNumbered old) (IsNumbered new) (λ l is. still_numbers old new l.object l.numbers kept is) ls are

pub no_numbers : (names : List (List ℕ)) (bytes : List ℕ) (numbers : List (Option ℕ)) → numbers ≡ [] → AreNumbersOf names bytes numbers
no_numbers names bytes numbers none = record { each = λ j k is. absurd (none-some k (sym (ap (λ (ns : List (Option ℕ)). number_in ns j) none) ∙ is)) }

pub none_numbered : (names : List (List ℕ)) (ls : List Loaded) → ls ≡ [] → AreNumbered names ls
none_numbered names ls none = subst (AreNumbered names) (sym none) (All-nil (IsNumbered names))

-- one object more
pub numbered_pushed :
    (old new : List (List ℕ)) (ls all : List Loaded) (x : Loaded) → AreNumbered old ls → KeepNumbers old new → all ≡ ls ++ x ∷ [] → IsNumbered new x →
    AreNumbered new all
numbered_pushed old new ls all x are kept is one = subst (AreNumbered new) (sym is) (All-push (IsNumbered new) ls x (still_numbered old new ls kept are) one)

-- one behind others
last_or_before : (xs : List (Option ℕ)) (x : Option ℕ) (j k : ℕ) → number_in (xs ++ x ∷ []) j ≡ Some k → (number_in xs j ≡ Some k) ⊎ ((j ≡ length xs) × (x ≡ Some k))
last_or_before [] x zero k is = inr (refl, is)
last_or_before [] x (suc j) k is = absurd (none-some k is)
last_or_before (y ∷ ys) x zero k is = inl is
last_or_before (y ∷ ys) x (suc j) k is = by (last_or_before ys x j k is)
  where
    by : (number_in ys j ≡ Some k) ⊎ ((j ≡ length ys) × (x ≡ Some k)) → (number_in ys j ≡ Some k) ⊎ ((suc j ≡ length (y ∷ ys)) × (x ≡ Some k))
    by (inl before) = inl before
    by (inr last) = inr (ap (λ (n : ℕ). suc n) last.0, last.1)

from_some : (o number : Option ℕ) (k : ℕ) → IfSome o (λ i. number ≡ Some i) → o ≡ Some k → number ≡ Some k
from_some (Some i) number k is same = is ∙ same
from_some None number k is same = absurd (none-some k same)

number_told : (names : List (List ℕ)) (name : List ℕ) (o : Option ℕ) (k : ℕ) → IfSome o (λ i. IsNumberOf names name i) → o ≡ Some k → IsNumberOf names name k
number_told names name o k told is = subst (λ (p : Option ℕ). IfSome p (λ i. IsNumberOf names name i)) is told

pub numbered_more :
    (bytes : List ℕ) (j : ℕ) (old new : List (List ℕ)) (numbers more : List (Option ℕ)) (o : Option ℕ) → AreNumbersOf old bytes numbers → length numbers ≡ j →
    KeepNumbers old new → IfSome o (λ k. IsNumberOf new (name_at bytes j) k) → HasOneMore o numbers more → AreNumbersOf new bytes more
numbered_more bytes j old new numbers more o are count kept told one = record {
  each = λ i k is. by i k (last_or_before numbers one.last i k (sym (ap (λ (ns : List (Option ℕ)). number_in ns i) one.added) ∙ is));
}
  where
    by : (i k : ℕ) → (number_in numbers i ≡ Some k) ⊎ ((i ≡ length numbers) × (one.last ≡ Some k)) → IsNumberOf new (name_at bytes i) k
    by i k (inl before) = kept.keep (name_at bytes i) k (are.each i k before)
    by i k (inr last) =
        subst (λ (n : ℕ). IsNumberOf new (name_at bytes n) k) (sym (last.0 ∙ count))
        (number_told new (name_at bytes j) o k told (from_some one.last o k one.is last.1))

pub count_more : (o : Option ℕ) (numbers more : List (Option ℕ)) (j : ℕ) → HasOneMore o numbers more → length numbers ≡ j → length more ≡ j + 1
count_more o numbers more j one count =
    ap (λ (ns : List (Option ℕ)). length ns) one.added ∙ (length-append numbers (one.last ∷ []) ∙ ap (λ (n : ℕ). n + 1) count)
