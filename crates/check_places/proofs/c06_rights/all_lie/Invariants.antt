use Rattle.std.proofs.Common.{drop}
use Rattle.std.specs.Prelude.{All}
use Rattle.elf_model.specs.Link.Placement.{LiesInSegment}
use Rattle.elf_model.proofs.Rests.{Left}
use Rattle.check_places.proofs.c06_rights.all_lie.Given as goal

abbrev pub invariant-loop-thing : goal.invariant-loop-thing
invariant-loop-thing l =
    Left (All (LiesInSegment l.segments) l.things) (All (LiesInSegment l.segments) (drop l.thing-index l.things))
