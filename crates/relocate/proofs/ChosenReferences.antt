-- What a reference to a symbol is whose name an object defines.
use Rattle.std.proofs.Common.{◌≡◌, ◌∙◌, ◌%◌, ◌^◌, ℕ, Bool, true, false, cond, List, Option, None, Some, ap, option_map, refl, subst, sym}
use Rattle.std.specs.Prelude.{IsSomeAnd, is_some, unwrap_or}
use Rattle.std.specs.Option.{option_and_then, option_map_or, option_or}
use Rattle.std.proofs.lemmas.Bool.{false≢true}
use Rattle.std.proofs.lemmas.Option.{none-some, same_Some}
use Rattle.elf_model.specs.Link.Commons.{Block, block_named, is_common_symbol}
use Rattle.elf_model.specs.Link.LinkerNames.{bound_of}
use Rattle.elf_model.specs.Link.Loading.{LoadedObject}
use Rattle.elf_model.specs.Link.Meaning.{Common, Linker, Meaning, Symbol, is_in_thread_storage, meaning_size, meaning_value, meant}
use Rattle.elf_model.specs.Link.Placement.{Where}
use Rattle.elf_model.specs.Link.Relocation.{IsMixed, definition_of, is_local, symbol_at}
use Rattle.elf_model.specs.Link.Resolution.{SymbolOf, chosen, is_undefined}
use Rattle.elf_model.proofs.Listing.{chosen_means}
use Rattle.resolve.specs.Meaning.{named_at, named_of}
use Rattle.resolve.specs.Threads.{is_thread_chosen}
use Rattle.relocate.specs.References.{IsObjectAt}
use Rattle.relocate.specs.SymbolTables.{IsReference, IsValueOf, IsWorth}
use Rattle.relocate.specs.declared.referrer.Reference.{Reference}
use Rattle.relocate.specs.declared.symbol_values.SymbolValue.{SymbolValue}

module _ (objects : List LoadedObject) (s : SymbolOf) where
  -- it isn't LOCAL, and its name has a definition
  record IsChosen (d : SymbolOf) : Type 0 where
    global : is_local s ≡ false
    chosen_is : chosen objects s.name ≡ Some d

  chosen_so : (d : SymbolOf) → named_of objects s ≡ Some d → IsChosen d
  chosen_so d e = by (is_local s) refl
    where
      by : (b : Bool) → is_local s ≡ b → IsChosen d
      by true is = absurd (none-some d (sym (ap (λ t. cond t None (chosen objects s.name)) is) ∙ e))
      by false is = record { global = is; chosen_is = sym (ap (λ t. cond t None (chosen objects s.name)) is) ∙ e }

  -- what that uses: an object's, not the linker's
  uses : (d : SymbolOf) → IsChosen d → definition_of objects s ≡ meant objects d
  uses d c =
      ap (λ t. cond t (cond (is_undefined s.entry) None (Some (Symbol s))) (option_or (option_and_then (meant objects) (chosen objects s.name)) (option_map (Linker s.name) (bound_of objects s.name)))) c.global
      ∙ ap (λ (o : Option SymbolOf). option_or (option_and_then (meant objects) o) (option_map (Linker s.name) (bound_of objects s.name))) c.chosen_is
      ∙ first (meant objects d) (chosen_means objects s.name d c.chosen_is)
    where
      first : (m : Option Meaning) → is_some m ≡ true → option_or m (option_map (Linker s.name) (bound_of objects s.name)) ≡ m
      first None some = absurd (false≢true some)
      first (Some m) some = refl

  not_none : (d : SymbolOf) → IsChosen d → definition_of objects s ≡ None → ⊥
  not_none d c e = false≢true (sym (ap is_some (sym (uses d c) ∙ e)) ∙ chosen_means objects s.name d c.chosen_is)

  not_mixed : (d : SymbolOf) → IsChosen d → IsSomeAnd (definition_of objects s) (IsMixed objects) → ⊥
  not_mixed d c mixed = by (is_common_symbol d) (block_named objects d.name) (subst (λ (o : Option Meaning). IsSomeAnd o (IsMixed objects)) (uses d c) mixed)
    where
      by : (b : Bool) (k : Option Block) → IsSomeAnd (cond b (option_map Common k) (Some (Symbol d))) (IsMixed objects) → ⊥
      by true None m = m
      by true (Some k) m = m
      by false k m = m

  reference_so : (d : SymbolOf) (t : Bool) (r : Reference) → IsChosen d → is_thread_chosen objects d ≡ t → r.undefined ≡ false → r.unkept ≡ false →
      r.dropped ≡ s.dropped → r.thread_local ≡ t → r.mixed ≡ false → IsReference objects s r
  reference_so d t r c thread undefined unkept dropped thread_local mixed = record {
    undefined = (λ is. absurd (false≢true (sym undefined ∙ is)), λ lacks. absurd (not_none d c lacks.2));
    unkept = (λ is. absurd (false≢true (sym unkept ∙ is)), λ local. absurd (false≢true (sym c.global ∙ local.0)));
    dropped = dropped;
    thread_local = thread_local ∙ sym thread ∙ ap (λ (o : Option Meaning). option_map_or (is_in_thread_storage objects) o false) (sym (uses d c));
    mixed = (λ is. absurd (false≢true (sym mixed ∙ is)), λ m. absurd (not_mixed d c m));
  }

pub is_reference :
    (objects : List LoadedObject) (number : ℕ) (o : LoadedObject) (j : ℕ) (t : Bool) (r : Reference) → IsObjectAt objects number o →
    option_map (is_thread_chosen objects) (named_at objects number j) ≡ Some t → r.undefined ≡ false → r.unkept ≡ false →
    r.dropped ≡ (symbol_at number o j).dropped → r.thread_local ≡ t → r.mixed ≡ false → IsReference objects (symbol_at number o j) r
is_reference objects number o j t r there e undefined unkept dropped thread_local mixed =
    by (named_of objects s) refl (sym (ap (λ (f : Option LoadedObject). option_map (is_thread_chosen objects) (option_and_then (λ (p : LoadedObject). named_of objects (symbol_at number p j)) f)) there) ∙ e)
  where
    s : SymbolOf
    s = symbol_at number o j

    by : (n : Option SymbolOf) → named_of objects s ≡ n → option_map (is_thread_chosen objects) n ≡ Some t → IsReference objects s r
    by None is f = absurd (none-some t f)
    by (Some d) is f = reference_so objects s d t r (chosen_so objects s d is) (same_Some (is_thread_chosen objects d) t f) undefined unkept dropped thread_local mixed

-- what a symbol is worth whose name an object defines
pub is_value :
    (objects : List LoadedObject) (number : ℕ) (o : LoadedObject) (j : ℕ) (w : Where) (v : SymbolValue) → IsObjectAt objects number o →
    IsSomeAnd (named_at objects number j) (λ d. IsWorth w (meant objects d) v) → IsValueOf objects w (symbol_at number o j) v
is_value objects number o j w v there worth =
    by (named_of objects s) refl
    (subst (λ (n : Option SymbolOf). IsSomeAnd n (λ d. IsWorth w (meant objects d) v))
    (ap (λ (f : Option LoadedObject). option_and_then (λ (p : LoadedObject). named_of objects (symbol_at number p j)) f) there) worth)
  where
    s : SymbolOf
    s = symbol_at number o j

    by : (n : Option SymbolOf) → named_of objects s ≡ n → IsSomeAnd n (λ d. IsWorth w (meant objects d) v) → IsValueOf objects w s v
    by None is k = absurd k
    by (Some d) is k =
        let e = sym (uses objects s d (chosen_so objects s d is)) in
        record {
          value = k.value ∙ ap (λ (m : Option Meaning). unwrap_or (option_map (meaning_value w) m) 0 % 2 ^ 64) e;
          size = k.size ∙ ap (λ (m : Option Meaning). unwrap_or (option_map meaning_size m) 0 % 2 ^ 64) e;
        }
