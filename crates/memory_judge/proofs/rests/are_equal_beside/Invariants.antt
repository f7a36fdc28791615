use Rattle.std.proofs.Common.{drop}
use Rattle.elf_model.proofs.Rests.{Left}
use Rattle.memory_judge.specs.Rests.{IsRestFrom}
use Rattle.memory_judge.proofs.rests.are_equal_beside.Given as goal

abbrev pub invariant-loop-span : goal.invariant-loop-span
invariant-loop-span l =
    Left (IsRestFrom l.held l.bytes l.spans 0 l.size) (IsRestFrom l.held l.bytes (drop l.span-index l.spans) l.from l.size)
