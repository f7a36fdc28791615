-- What the definitions of a link mean that have a line, in the order of their names.
use Rattle.std.specs.Prelude.{List, Option, None, Some}
use Rattle.elf_model.specs.Link.Meaning.{Meaning}
use Rattle.image_write.specs.declared.symbol_table.SymbolTable.{SymbolTable}
use Rattle.resolve.specs.Views.{meaning_views}
use Rattle.linker.specs.InOrder.{meanings_in}
use Rattle.linker.specs.declared.own_definitions.OwnDefinitions.{OwnDefinitions}
use Rattle.linker.specs.declared.own_definitions.OwnDefinitions.TheVariants as code

abbrev pub meanings_of : OwnDefinitions → List Meaning
meanings_of (code.Listed listed table) = meaning_views listed.now
meanings_of (code.Found found) = meanings_in found

-- their symbol table
abbrev pub table_with : OwnDefinitions → Option SymbolTable
table_with (code.Listed listed table) = Some table
table_with (code.Found found) = None
