-- The object lines of a map.
use Rattle.std.specs.Prelude.{ℕ}
use Rattle.elf_model.specs.Link.Loading.{LoadedObject}
use Rattle.elf_model.specs.Image.MapRecord.{ObjectRow}

-- the map's row for object number k
abbrev pub row_of : ℕ → LoadedObject → ObjectRow
row_of k o = record { object = k; item = o.item; offset = o.offset; path = o.path }
