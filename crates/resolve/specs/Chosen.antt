-- The chosen definitions as other crates see them.
use Rattle.std.specs.Prelude.{List}
use Rattle.elf_model.specs.Link.ChosenSymbols.{chosen_symbols}
use Rattle.elf_model.specs.Link.Resolution.{SymbolOf}
use Rattle.resolve.specs.declared.definitions.Definitions.{Definitions}

-- the chosen symbols of the objects that definitions are of
abbrev pub defined_in : Definitions → List SymbolOf
defined_in d = chosen_symbols d.loaded.now.objects
