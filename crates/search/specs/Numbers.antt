-- The numbers of symbols' names, and what is known of the names that have numbers.
use Rattle.std.specs.Prelude.{◌≡◌, ℕ, ◌<◌, true, cond, List, Option, None, Some, All, length, slice_index_or}
use Rattle.std.specs.List.{slice_get}
use Rattle.std.specs.Option.{option_and_then}
use Rattle.elf_model.specs.Link.Loading.{AreObjects, LoadedObject, is_global_or_weak}
use Rattle.elf_model.specs.Inputs.ObjectFile.{name_of_symbol, null_symbol, symbols}
use Rattle.elf_model.specs.declared.records.Symbol.{Symbol}
use Rattle.search.specs.Loads.{LoadedPlan}
use Rattle.search.specs.Names.{is_among, number_of}
use Rattle.search.specs.Views.{loaded_views}
use Rattle.search.specs.declared.loaded.LoadedObject as code
use Rattle.search.specs.declared.loaded.TheConstants.{NO_NUMBER}

-- a number is that of the name of a symbol of an object's bytes: NO_NUMBER where that is LOCAL
pub record IsNumberOf (names : List (List ℕ)) (bytes : List ℕ) (s : Symbol) (number : ℕ) : Type 0 where
  pub is : number ≡ cond (is_global_or_weak s) (number_of names (name_of_symbol bytes s)) NO_NUMBER
  pub among : is_global_or_weak s ≡ true → is_among names (name_of_symbol bytes s) ≡ true

-- numbers are those of the names of the first symbols of an object's bytes
pub record AreFirstNumbers (count : ℕ) (names : List (List ℕ)) (bytes : List ℕ) (numbers : List ℕ) : Type 0 where
  pub sized : length numbers ≡ count
  pub each : (j : ℕ) → j < count → IsNumberOf names bytes (slice_index_or (symbols bytes) j null_symbol) (slice_index_or numbers j 0)

-- numbers are those of the names of all symbols of a loaded object, or of each of several
abbrev pub IsNumbered : List (List ℕ) → code.LoadedObject → Type 0
IsNumbered names o = AreFirstNumbers (length (symbols o.object)) names o.object o.numbers.items

abbrev pub AreNumbered : List (List ℕ) → List code.LoadedObject → Type 0
AreNumbered names objects = All (IsNumbered names) objects

-- what is loaded are objects, and the names of their symbols have numbers
pub record AreWhole (names : List (List ℕ)) (objects : List code.LoadedObject) : Type 0 where
  pub objects_ : AreObjects (loaded_views objects)
  pub numbered : AreNumbered names objects

-- the number that is kept for a symbol of an object
abbrev pub stored_number : List code.LoadedObject → ℕ → ℕ → Option ℕ
stored_number objects object number = option_and_then (λ o. slice_get o.numbers.items number) (slice_get objects object)

-- the number of the name of a symbol of what is loaded; None where it is LOCAL, or there is no such symbol
abbrev pub name_number : LoadedPlan → ℕ → ℕ → Option ℕ
name_number l object number =
    option_and_then (λ o.
    option_and_then (λ s. cond (is_global_or_weak s) (Some (number_of l.names (name_of_symbol o.bytes s))) None)
    (slice_get (symbols o.bytes) number)) (slice_get l.objects object)

-- the names of the symbols that aren't LOCAL are among those that have numbers
abbrev pub AreNamed : LoadedPlan → Type 0
AreNamed l =
    (k j : ℕ) (o : LoadedObject) (s : Symbol) → slice_get l.objects k ≡ Some o → slice_get (symbols o.bytes) j ≡ Some s → is_global_or_weak s ≡ true →
    is_among l.names (name_of_symbol o.bytes s) ≡ true
