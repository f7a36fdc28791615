-- Which of the chosen definitions are thread-local.
use Rattle.std.specs.Prelude.{◌≡◌, Bool, false, List, map}
use Rattle.std.specs.Option.{option_map_or}
use Rattle.elf_model.specs.Link.ChosenSymbols.{chosen_symbols}
use Rattle.elf_model.specs.Link.Loading.{LoadedObject}
use Rattle.elf_model.specs.Link.Meaning.{is_in_thread_storage, meant}
use Rattle.elf_model.specs.Link.Resolution.{SymbolOf}

-- what a chosen symbol means stands in a section with SHF_TLS
abbrev pub is_thread_chosen : List LoadedObject → SymbolOf → Bool
is_thread_chosen objects s = option_map_or (is_in_thread_storage objects) (meant objects s) false

abbrev pub AreThreads : List LoadedObject → List Bool → Type 0
AreThreads objects threads = threads ≡ map (is_thread_chosen objects) (chosen_symbols objects)
