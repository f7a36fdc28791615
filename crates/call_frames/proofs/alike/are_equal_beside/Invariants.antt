use Rattle.std.proofs.Common.{drop}
use Rattle.elf_model.proofs.Rests.{Left}
use Rattle.call_frames.specs.Alike.{IsRestAt}
use Rattle.call_frames.proofs.alike.are_equal_beside.Given as goal

abbrev pub invariant-loop-span : goal.invariant-loop-span
invariant-loop-span l =
    Left (IsRestAt l.held l.bytes l.spans l.start 8 l.size) (IsRestAt l.held l.bytes (drop l.span-index l.spans) l.start l.from l.size)
