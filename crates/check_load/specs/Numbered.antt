-- The numbers of the names of objects' symbols.
use Rattle.std.specs.Prelude.{◌≡◌, ℕ, ◌++◌, ◌∷◌, [], All, IfSome, List, None, Option, Some, slice_index_or, unwrap_or}
use Rattle.elf_model.specs.Inputs.ObjectFile.{symbol_name}
use Rattle.check_load.specs.NameNumbers.{IsNumberOf}
use Rattle.check_load.specs.declared.loaded.Loaded.{Loaded}

-- the number that is known for the name of symbol j
abbrev pub number_in : List (Option ℕ) → ℕ → Option ℕ
number_in numbers j = slice_index_or numbers j None

-- one number more, which is left out where it takes too many bits
pub record HasOneMore (number : Option ℕ) (old new : List (Option ℕ)) : Type 0 where
  pub last : Option ℕ
  pub added : new ≡ old ++ last ∷ []
  pub is : IfSome last (λ k. number ≡ Some k)

-- the name of a symbol of an object, empty where there is no such symbol
abbrev pub name_at : List ℕ → ℕ → List ℕ
name_at bytes j = unwrap_or (symbol_name bytes j) []

-- the numbers that are known are those of the names of an object's symbols
pub record AreNumbersOf (names : List (List ℕ)) (bytes : List ℕ) (numbers : List (Option ℕ)) : Type 0 where
  pub each : (j k : ℕ) → number_in numbers j ≡ Some k → IsNumberOf names (name_at bytes j) k

-- so they are for each of loaded objects
abbrev pub IsNumbered : List (List ℕ) → Loaded → Type 0
IsNumbered names l = AreNumbersOf names l.object l.numbers

abbrev pub AreNumbered : List (List ℕ) → List Loaded → Type 0
AreNumbered names ls = All (IsNumbered names) ls
