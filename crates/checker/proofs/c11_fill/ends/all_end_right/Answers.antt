use Rattle.std.specs.Prelude.{All}
use Rattle.elf_model.specs.Image.RightLink.{EndsRight}
use Rattle.elf_model.proofs.Rests.{all_more}
use Rattle.checker.proofs.c11_fill.ends.all_end_right.Goals as goal

pub loop-segment-preserved : goal.loop-segment-preserved
loop-segment-preserved c =
    all_more (All (EndsRight c.args.sorted.now) c.args.segments.now) (EndsRight c.args.sorted.now) c.args.segments.now
    c.loop-segment.segment-index _ c.loop-segment-test.true
    (c.ends_with_its_things.ensures.0 c.if-not-ends_with_its_things.false) c.loop-segment.invariant
