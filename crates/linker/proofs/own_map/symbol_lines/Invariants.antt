use Rattle.std.proofs.Common.{◌≡◌, ◌++◌, drop, map}
use Rattle.elf_model.specs.Image.MapRecord.{symbol_row}
use Rattle.elf_model.specs.Image.RightLink.{symbol_row_of}
use Rattle.elf_model.specs.Own.OwnLayout.{own_where}
use Rattle.resolve.specs.Views.{meaning_views}
use Rattle.linker.proofs.own_map.symbol_lines.Given as goal

abbrev pub invariant-loop-meaning : goal.invariant-loop-meaning
invariant-loop-meaning l =
    map symbol_row l.lines.items ++ map (symbol_row_of (own_where l.placement.base l.placement.objects)) (meaning_views (drop l.meaning-index l.listed))
    ≡ map (symbol_row_of (own_where l.placement.base l.placement.objects)) (meaning_views l.listed)
