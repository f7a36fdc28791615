use Rattle.std.proofs.Common.{◌≡◌, ◌++◌, drop}
use Rattle.elf_model.specs.Image.RightLink.{drop_rows}
use Rattle.check_load.specs.Views.{loaded_views}
use Rattle.check_places.proofs.c03_sections.drops.drops_of.Given as goal

abbrev pub invariant-loop-k : goal.invariant-loop-k
invariant-loop-k l = l.found.items ++ drop_rows l.k (loaded_views (drop l.k l.objects)) ≡ drop_rows 0 (loaded_views l.objects)
