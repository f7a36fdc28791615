use Rattle.std.proofs.Common.{◌≡◌, ◌++◌, drop, map}
use Rattle.elf_model.specs.Image.MapRecord.{common_row}
use Rattle.resolve.specs.Views.{meaning_views}
use Rattle.image_write.specs.CommonRows.{own_commons}
use Rattle.linker.proofs.own_map.common_lines.Given as goal

abbrev pub invariant-loop-meaning : goal.invariant-loop-meaning
invariant-loop-meaning l =
    map common_row l.lines.items ++ own_commons l.placement.base l.placement.objects (meaning_views (drop l.meaning-index l.listed))
    ≡ own_commons l.placement.base l.placement.objects (meaning_views l.listed)
