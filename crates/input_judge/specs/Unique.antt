-- Strong definitions that are chosen.
use Rattle.std.specs.Prelude.{◌≡◌, List, true}
use Rattle.elf_model.specs.Link.ChosenSymbols.{is_chosen}
use Rattle.elf_model.specs.Link.Loading.{LoadedObject}
use Rattle.elf_model.specs.Link.Resolution.{SymbolOf, is_strong}

-- a symbol is no strong definition, or the chosen one of its name
abbrev pub IsChosenIfStrong : List LoadedObject → SymbolOf → Type 0
IsChosenIfStrong objects s = is_strong s ≡ true → is_chosen objects s ≡ true
