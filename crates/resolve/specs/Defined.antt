-- What the objects define names as.
use Rattle.std.specs.Prelude.{◌≡◌, ℕ, ◌≤◌, ◌&&◌, Bool, List, count_by, map}
use Rattle.elf_model.specs.Link.Loading.{LoadedObject}
use Rattle.elf_model.specs.Link.ChosenSymbols.{chosen_symbols}
use Rattle.elf_model.specs.Link.Resolution.{AreSoundCommons, AreSoundSymbols, AreUnique, SymbolOf, has_name, is_strong}
use Rattle.elf_model.specs.declared.references.SymbolRef.{SymbolRef}
use Rattle.resolve.specs.Offered.{ref_of}

-- no name is that of two
abbrev pub HasEachNameOnce : List SymbolOf → Type 0
HasEachNameOnce ss = (name : List ℕ) → count_by (has_name name) ss ≤ 1

-- a strong definition of a name
abbrev pub is_strong_of : List ℕ → SymbolOf → Bool
is_strong_of name s = is_strong s && has_name name s

-- no name has two strong definitions
abbrev pub HasNoStrongTwins : List SymbolOf → Type 0
HasNoStrongTwins ss = (name : List ℕ) → count_by (is_strong_of name) ss ≤ 1

-- the numbers of the chosen definitions, in load order
abbrev pub AreChosen : List LoadedObject → List SymbolRef → Type 0
AreChosen objects chosen = chosen ≡ map ref_of (chosen_symbols objects)

-- what is known of objects whose definitions are chosen
pub record AreDefined (objects : List LoadedObject) : Type 0 where
  pub commons : AreSoundCommons objects
  pub sound : AreSoundSymbols objects
  pub unique : AreUnique objects
