use Rattle.std.proofs.Common.{drop}
use Rattle.std.specs.Prelude.{All}
use Rattle.checker.specs.Filled.{SegmentFilled}
use Rattle.elf_model.proofs.Rests.{Left}
use Rattle.checker.proofs.c11_fill.are_segments_filled.Given as goal

abbrev pub invariant-loop-segment : goal.invariant-loop-segment
invariant-loop-segment l =
    Left (All (SegmentFilled l.image l.stretches) l.segments) (All (SegmentFilled l.image l.stretches) (drop l.segment-index l.segments))
