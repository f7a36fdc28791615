-- Symbols for whose names loading noted that objects define them: their definitions have these names, and none is the linker's.
use Rattle.std.proofs.Common.{◌≡◌, ℕ, zero, suc, ◌<◌, ◌&&◌, Bool, true, false, List, [], ◌∷◌, Option, None, Some, get_or, length, refl, sym, ap, ◌∙◌, arith}
use Rattle.std.specs.Prelude.{IsSome, is_some, not, slice_get}
use Rattle.std.specs.Option.{is_none}
use Rattle.std.specs.Str.{bytes_eq}
use Rattle.std.proofs.lemmas.Bool.{false≢true}
use Rattle.std.proofs.lemmas.Slice.Eq.{bytes_eq-Decides}
use Rattle.elf_model.proofs.ChosenSymbols.{chosen_listed}
use Rattle.elf_model.proofs.Finding.{find-found}
use Rattle.elf_model.specs.Link.ChosenSymbols.{chosen_symbols}
use Rattle.elf_model.specs.Link.Loading.{LoadedObject}
use Rattle.elf_model.specs.Link.Relocation.{is_local, symbol_at}
use Rattle.elf_model.specs.Link.Resolution.{SymbolOf, chosen, has_name}
use Rattle.elf_model.specs.Link.LinkerNames.{bound_of, got_name}
use Rattle.elf_model.specs.Link.Slots.{names_got}
use Rattle.elf_model.specs.Link.UsedNames.{is_linker_use}
use Rattle.check_load.specs.Numbered.{name_at}
use Rattle.check_load.specs.Views.{loaded_view, loaded_views}
use Rattle.check_load.specs.declared.loaded.Loaded.{Loaded}

-- a name's chosen definition has the name
pub choice_named : (L : List LoadedObject) (n : List ℕ) (s : SymbolOf) → chosen L n ≡ Some s → s.name ≡ n
choice_named L n s is = (bytes_eq-Decides s.name n).0 (find-found (has_name n) (chosen_symbols L) s (chosen_listed L n ∙ is)).passes

-- a symbol is the same with its name put there
pub with_name : (k : ℕ) (o : LoadedObject) (j : ℕ) (n : List ℕ) → n ≡ name_at o.bytes j → record (symbol_at k o j) { name = n } ≡ symbol_at k o j
with_name k o j n is = ap (λ (m : List ℕ). record (symbol_at k o j) { name = m }) is

-- a symbol whose name has a chosen definition is no use of the linker's names
pub chosen_is_no_use : (L : List LoadedObject) (s t : SymbolOf) → chosen L s.name ≡ Some t → false ≡ is_linker_use L s
chosen_is_no_use L s t is =
    none (not (is_local s)) (is_some (bound_of L s.name))
    ∙ sym (ap (λ (o : Option SymbolOf). not (is_local s) && (is_some (bound_of L s.name) && not (is_some o))) is)
  where
    none : (a b : Bool) → false ≡ (a && (b && false))
    none true true = refl
    none true false = refl
    none false b = refl

-- so it is where an object defines the name
pub noted_is_no_use : (L : List LoadedObject) (s : SymbolOf) → IsSome (chosen L s.name) → false ≡ is_linker_use L s
noted_is_no_use L s some = by (chosen L s.name) refl some
  where
    by : (r : Option SymbolOf) → chosen L s.name ≡ r → IsSome r → false ≡ is_linker_use L s
    by None e none = absurd (false≢true none)
    by (Some t) e some = chosen_is_no_use L s t e

-- nor does it name the GOT
pub noted_names_no_got : (L : List LoadedObject) (s : SymbolOf) → IsSome (chosen L s.name) → false ≡ names_got L s
noted_names_no_got L s some = by (chosen L s.name) refl some
  where
    none : (a b : Bool) → false ≡ (a && (b && false))
    none true true = refl
    none true false = refl
    none false b = refl

    by : (r : Option SymbolOf) → chosen L s.name ≡ r → IsSome r → false ≡ names_got L s
    by None e none_ = absurd (false≢true none_)
    by (Some t) e some_ =
        none (not (is_local s)) (bytes_eq s.name got_name)
        ∙ sym (ap (λ (x : Option SymbolOf). not (is_local s) && (bytes_eq s.name got_name && is_none x)) e)

-- an element of the objects is the one that has its number
viewed : (xs : List Loaded) (k : ℕ) (d : Loaded) → k < length xs → slice_get (loaded_views xs) k ≡ Some (loaded_view (get_or xs k d))
viewed [] k d low = absurd (omega (arith, low))
viewed (x ∷ xs) zero d low = refl
viewed (x ∷ xs) (suc k) d low = viewed xs k d (omega (arith, low))

pub element_there :
    (xs : List Loaded) (L : List LoadedObject) (k : ℕ) (x : Loaded) → loaded_views xs ≡ L → k < length xs → x ≡ get_or xs k x →
    slice_get L k ≡ Some (loaded_view x)
element_there xs L k x same within is =
    ap (λ (os : List LoadedObject). slice_get os k) (sym same) ∙ (viewed xs k x within ∙ ap (λ (y : Loaded). Some (loaded_view y)) (sym is))
