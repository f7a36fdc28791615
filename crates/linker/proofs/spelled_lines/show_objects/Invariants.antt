use Rattle.std.proofs.Common.{drop}
use Rattle.std.specs.Prelude.{All}
use Rattle.elf_model.specs.Image.MapText.{FitsObject}
use Rattle.elf_model.specs.Image.RightLink.{object_rows}
use Rattle.search.specs.Views.{loaded_views}
use Rattle.linker.proofs.spelled_lines.show_objects.Given as goal

abbrev pub invariant-loop-k : goal.invariant-loop-k
invariant-loop-k l =
    All FitsObject (object_rows l.k (loaded_views (drop l.k l.objects))) → All FitsObject (object_rows 0 (loaded_views l.objects))
