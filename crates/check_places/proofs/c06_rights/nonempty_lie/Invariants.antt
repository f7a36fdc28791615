use Rattle.std.proofs.Common.{◌<◌, drop}
use Rattle.std.specs.Prelude.{All}
use Rattle.elf_model.specs.Image.MemoryImage.{loads}
use Rattle.elf_model.specs.Link.Placement.{LiesInSegment}
use Rattle.elf_model.proofs.Rests.{Left}
use Rattle.check_places.proofs.c06_rights.nonempty_lie.Given as goal

abbrev pub invariant-loop-thing : goal.invariant-loop-thing
invariant-loop-thing l =
    Left (All (λ t. 0 < t.size → LiesInSegment (loads l.memory) t) l.things)
    (All (λ t. 0 < t.size → LiesInSegment (loads l.memory) t) (drop l.thing-index l.things))
