use Rattle.std.proofs.Common.{◌≡◌, drop, map}
use Rattle.linkmap.specs.Borrowed.{object_row}
use Rattle.elf_model.specs.Image.RightLink.{object_rows}
use Rattle.elf_model.proofs.Rests.{Left}
use Rattle.check_load.specs.Views.{loaded_views}
use Rattle.checker.proofs.c02_loaded.are_lines_of.Given as goal

abbrev pub invariant-loop-k : goal.invariant-loop-k
invariant-loop-k l =
    Left (map object_row l.lines ≡ object_rows 0 (loaded_views l.objects))
    (map object_row (drop l.k l.lines) ≡ object_rows l.k (loaded_views (drop l.k l.objects)))
