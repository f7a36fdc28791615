-- What a name means: the definition that objects make of it, or else what the linker itself defines (System V gABI 4,
-- "Symbol Table"; the linker's names are the profile's).
use Rattle.std.specs.Prelude.{ℕ, Bool, false, cond, List, [], ◌∷◌, Option, Some, option_map}
use Rattle.std.specs.List.{flat_map}
use Rattle.std.specs.Option.{option_and_then, option_map_or, option_or}
use Rattle.elf_model.specs.Link.Commons.{Block, block_named, is_common_symbol}
use Rattle.elf_model.specs.Link.LinkerNames.{bound_of}
use Rattle.elf_model.specs.Link.LinkerValues.{bound_value}
use Rattle.elf_model.specs.Link.Loading.{LoadedObject}
use Rattle.elf_model.specs.Link.Placement.{Where, section_address, symbol_value}
use Rattle.elf_model.specs.Link.Resolution.{SymbolOf, chosen, is_in_thread_section}
use Rattle.elf_model.specs.declared.bound.Bound.{Bound}

-- a symbol of an object, the common block of a name, or a name of the linker's with what it stands for
pub data Meaning : Type 0 where
  Symbol : SymbolOf → Meaning
  Common : Block → Meaning
  Linker : List ℕ → Bound → Meaning

-- what a chosen symbol means: a common one, its name's block; another one, itself
abbrev pub meant : List LoadedObject → SymbolOf → Option Meaning
meant objects s = cond (is_common_symbol s) (option_map Common (block_named objects s.name)) (Some (Symbol s))

abbrev pub meant_list : List LoadedObject → SymbolOf → List Meaning
meant_list objects s = option_map_or (λ m. m ∷ []) (meant objects s) []

-- what symbols mean, in their order
abbrev pub meanings_of : List LoadedObject → List SymbolOf → List Meaning
meanings_of objects ss = flat_map (meant_list objects) ss

-- what a name means that an object defines
abbrev pub object_meaning : List LoadedObject → List ℕ → Option Meaning
object_meaning objects name = option_and_then (meant objects) (chosen objects name)

-- what a name means: what objects define, or else what the linker does
abbrev pub meaning : List LoadedObject → List ℕ → Option Meaning
meaning objects name = option_or (object_meaning objects name) (option_map (Linker name) (bound_of objects name))

abbrev pub meaning_name : Meaning → List ℕ
meaning_name (Symbol s) = s.name
meaning_name (Common b) = b.name
meaning_name (Linker name bound) = name

-- its value, its size, and whether it stands in a section with SHF_TLS
abbrev pub meaning_value : Where → Meaning → ℕ
meaning_value w (Symbol s) = symbol_value w.placed s
meaning_value w (Common b) = section_address w.placed b.object b.number
meaning_value w (Linker name bound) = bound_value w name bound

abbrev pub meaning_size : Meaning → ℕ
meaning_size (Symbol s) = s.entry.st_size
meaning_size (Common b) = b.size
meaning_size (Linker name bound) = 0

abbrev pub is_in_thread_storage : List LoadedObject → Meaning → Bool
is_in_thread_storage objects (Symbol s) = is_in_thread_section objects s
is_in_thread_storage objects (Common b) = false
is_in_thread_storage objects (Linker name bound) = false
