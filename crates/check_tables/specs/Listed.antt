-- The chosen definitions among strong ones, and the lines of what names mean.
use Rattle.std.specs.Prelude.{◌≡◌, ◌%◌, ◌^◌, true, List, Some, option_map}
use Rattle.elf_model.specs.Link.ChosenSymbols.{is_chosen}
use Rattle.elf_model.specs.Link.Listing.{listed}
use Rattle.elf_model.specs.Link.Loading.{LoadedObject}
use Rattle.elf_model.specs.Image.MapRecord.{SymbolRow}
use Rattle.elf_model.specs.Link.Placement.{Where}
use Rattle.elf_model.specs.Link.Resolution.{SymbolOf, is_strong}
use Rattle.elf_model.specs.Image.MapText as text
use Rattle.elf_model.specs.Image.MapText.{Line}
use Rattle.elf_model.specs.Image.RightLink.{definition_row, symbol_row_of}
use Rattle.elf_model.specs.Link.Meaning.{Meaning, meaning_name, meaning_value}

-- a symbol is no strong definition, or the chosen one of its name
abbrev pub IsChosenIfStrong : List LoadedObject → SymbolOf → Type 0
IsChosenIfStrong objects s = is_strong s ≡ true → is_chosen objects s ≡ true

-- a row is that of what its name means, and the name has one
abbrev pub IsLine : List LoadedObject → Where → SymbolRow → Type 0
IsLine objects w row = option_map (symbol_row_of w) (listed objects row.name) ≡ Some row

-- the line that says what a name means, with its value modulo 2 ^ 64
abbrev pub meaning_line : Where → Meaning → Line
meaning_line w m = text.Symbol (record { address = meaning_value w m % 2 ^ 64; definition = definition_row m; name = meaning_name m })
