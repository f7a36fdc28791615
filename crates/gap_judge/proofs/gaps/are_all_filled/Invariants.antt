use Rattle.std.proofs.Common.{drop}
use Rattle.std.specs.Prelude.{All}
use Rattle.elf_model.proofs.Rests.{Left}
use Rattle.gap_judge.specs.Fill.{IsSegmentFilled}
use Rattle.gap_judge.proofs.gaps.are_all_filled.Given as goal

abbrev pub invariant-loop-segment : goal.invariant-loop-segment
invariant-loop-segment l =
    Left (All (IsSegmentFilled l.image l.spans l.runs) l.segments) (All (IsSegmentFilled l.image l.spans l.runs) (drop l.segment-index l.segments))
