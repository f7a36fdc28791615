use Rattle.std.specs.Prelude.{All}
use Rattle.checker.specs.Filled.{SegmentFilled}
use Rattle.elf_model.proofs.Rests.{all_more}
use Rattle.checker.proofs.c11_fill.are_segments_filled.Goals as goal

pub loop-segment-preserved : goal.loop-segment-preserved
loop-segment-preserved c =
    all_more (All (SegmentFilled c.args.image.now c.args.stretches.now) c.args.segments.now) (SegmentFilled c.args.image.now c.args.stretches.now)
    c.args.segments.now c.loop-segment.segment-index _ c.loop-segment-test.true
    (c.is_segment_filled.ensures.0 c.if-not-is_segment_filled.false) c.loop-segment.invariant
