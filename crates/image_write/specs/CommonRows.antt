-- The lines of common blocks in the own map.
use Rattle.std.specs.Prelude.{ℕ, List, [], ◌∷◌}
use Rattle.std.specs.List.{flat_map}
use Rattle.elf_model.specs.Own.ImageFile.{common_row_of}
use Rattle.elf_model.specs.Link.Loading.{LoadedObject}
use Rattle.elf_model.specs.Image.MapRecord.{CommonRow}
use Rattle.elf_model.specs.Link.Meaning.{Common, Linker, Meaning, Symbol}

-- the line of what a name means where that is a common block, at its own address
abbrev pub common_rows_of : ℕ → List LoadedObject → Meaning → List CommonRow
common_rows_of base objects (Symbol s) = []
common_rows_of base objects (Common b) = common_row_of base objects b ∷ []
common_rows_of base objects (Linker name bound) = []

-- the lines of the blocks among what names mean, in their order
abbrev pub own_commons : ℕ → List LoadedObject → List Meaning → List CommonRow
own_commons base objects listed = flat_map (common_rows_of base objects) listed
