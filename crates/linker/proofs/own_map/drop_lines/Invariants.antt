use Rattle.std.proofs.Common.{◌≡◌, ◌++◌, drop}
use Rattle.elf_model.specs.Image.RightLink.{drop_rows}
use Rattle.search.specs.Views.{loaded_views}
use Rattle.linker.proofs.own_map.drop_lines.Given as goal

abbrev pub invariant-loop-k : goal.invariant-loop-k
invariant-loop-k l = l.lines.items ++ drop_rows l.k (loaded_views (drop l.k l.objects)) ≡ drop_rows 0 (loaded_views l.objects)
