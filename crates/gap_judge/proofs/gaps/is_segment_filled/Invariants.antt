use Rattle.std.proofs.Common.{◌+◌, ◌≤◌, drop}
use Rattle.std.specs.Prelude.{All}
use Rattle.elf_model.proofs.Rests.{Left}
use Rattle.gap_judge.specs.Fill.{HoldsFillIn}
use Rattle.gap_judge.specs.Gaps.{gaps}
use Rattle.gap_judge.proofs.gaps.is_segment_filled.Given as goal

abbrev pub invariant-loop-span : goal.invariant-loop-span
invariant-loop-span l =
    (l.segment.p_vaddr ≤ l.from)
    × Left (All (HoldsFillIn l.image l.runs l.segment) (gaps l.segment.p_vaddr (l.segment.p_vaddr + l.segment.p_memsz) l.spans))
    (All (HoldsFillIn l.image l.runs l.segment) (gaps l.from (l.segment.p_vaddr + l.segment.p_memsz) (drop l.span-index l.spans)))
