use Rattle.std.proofs.Common.{◌≡◌, ◌++◌, drop, map}
use Rattle.elf_model.specs.Image.MapRecord.{object_row}
use Rattle.elf_model.specs.Image.RightLink.{object_rows}
use Rattle.search.specs.Views.{loaded_views}
use Rattle.linker.proofs.own_map.object_lines.Given as goal

abbrev pub invariant-loop-k : goal.invariant-loop-k
invariant-loop-k l =
    map object_row l.lines.items ++ object_rows l.k (loaded_views (drop l.k l.objects)) ≡ object_rows 0 (loaded_views l.objects)
