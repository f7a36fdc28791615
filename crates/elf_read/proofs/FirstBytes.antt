-- A text isn't empty where its first byte isn't the NUL that ends it.
use Rattle.std.proofs.Common.{◌≡◌, ◌+◌, ◌<◌, ℕ, suc, Bool, true, false, cond, not, List, [], ◌∷◌, arith, drop, length, refl, sym, ◌∙◌, ap, take}
use Rattle.std.specs.Prelude.{◌↔◌, IsTrue, None, Option, Some, option_map, unwrap_or}
use Rattle.std.specs.List.{position_or_len, slice_get}
use Rattle.std.proofs.lemmas.Bool.{false≢true}
use Rattle.byteview.specs.Numbers.{is_nul, part, text}
use Rattle.elf_model.specs.Inputs.ObjectFile.{name_of_symbol, symbol_name, symbol_strings, symbols}
use Rattle.elf_model.specs.declared.records.Symbol.{Symbol}
use Rattle.elf_read.specs.Reading.{is_begun}

begun : (xs : List ℕ) → IsTrue (is_begun (take 1 xs)) ↔ (0 < length (take (position_or_len is_nul xs) xs))
begun [] = (λ t. absurd (false≢true t), λ low. absurd (omega (arith, low)))
begun (x ∷ xs) = by (is_nul x)
  where
    by : (b : Bool) → IsTrue (not b) ↔ (0 < length (take (cond (not b) (1 + position_or_len is_nul xs) 0) (x ∷ xs)))
    by true = (λ t. absurd (false≢true t), λ low. absurd (omega (arith, low)))
    by false =
        let more : 1 + position_or_len is_nul xs ≡ suc (position_or_len is_nul xs) = omega arith in
        (λ t. rw more (omega arith), λ low. refl)

pub has_text : (bytes : List ℕ) (at : ℕ) → IsTrue (is_begun (part bytes at 1)) ↔ (0 < length (text bytes at))
has_text bytes at = begun (drop at bytes)

-- the name of a symbol that is there is a text of the string table
pub name_is :
    (bytes strings : List ℕ) (kept : List Symbol) (j : ℕ) (s : Symbol) → strings ≡ symbol_strings bytes → kept ≡ symbols bytes →
    slice_get kept j ≡ Some s → unwrap_or (symbol_name bytes j) [] ≡ text strings s.st_name
name_is bytes strings kept j s strings_are kept_are there =
    ap (λ (o : Option Symbol). unwrap_or (option_map (name_of_symbol bytes) o) []) (sym (ap (λ (ss : List Symbol). slice_get ss j) kept_are) ∙ there)
    ∙ ap (λ (t : List ℕ). text t s.st_name) (sym strings_are)

pub no_name : (bytes : List ℕ) (kept : List Symbol) (j : ℕ) → kept ≡ symbols bytes → slice_get kept j ≡ None → unwrap_or (symbol_name bytes j) [] ≡ []
no_name bytes kept j kept_are none =
    ap (λ (o : Option Symbol). unwrap_or (option_map (name_of_symbol bytes) o) []) (sym (ap (λ (ss : List Symbol). slice_get ss j) kept_are) ∙ none)
