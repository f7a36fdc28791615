-- Which objects lines name: their items and offsets.
use Rattle.std.specs.Prelude.{ℕ}
use Rattle.elf_model.specs.Image.MapRecord.{ObjectRow, object_row}
use Rattle.elf_model.specs.declared.link_map.ObjectLine.{ObjectLine}
use Rattle.judge_model.specs.Loaded.{Origin}

abbrev pub origin_of_pair : ℕ × ℕ → Origin
origin_of_pair p = record { item = p.0; offset = p.1 }

abbrev pub origin_of_row : ObjectRow → Origin
origin_of_row row = record { item = row.item; offset = row.offset }

abbrev pub origin_of_line : ObjectLine → Origin
origin_of_line line = origin_of_row (object_row line)
