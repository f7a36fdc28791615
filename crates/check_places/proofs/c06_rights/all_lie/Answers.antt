use Rattle.std.proofs.Common.{◌≡◌, true, false}
use Rattle.std.specs.Prelude.{All}
use Rattle.elf_model.specs.Link.Placement.{LiesInSegment}
use Rattle.elf_model.proofs.Rests.{all_more, all_stop}
use Rattle.check_places.proofs.c06_rights.all_lie.Goals as goal

pub loop-thing-preserved : goal.loop-thing-preserved
loop-thing-preserved c =
    all_more (All (LiesInSegment c.args.segments.now) c.args.things.now) (LiesInSegment c.args.segments.now) c.args.things.now
    c.loop-thing.thing-index _ c.loop-thing-test.true (c.lies_in_segment.ensures.0 c.if-not-lies_in_segment.false) c.loop-thing.invariant

pub returns-then-not-lies_in_segment : goal.returns-then-not-lies_in_segment
returns-then-not-lies_in_segment c = (
  λ e. absurd (let f : false ≡ true = e in cc),
  λ h. absurd
      (all_stop (All (LiesInSegment c.args.segments.now) c.args.things.now) (LiesInSegment c.args.segments.now) c.args.things.now
      c.loop-thing.thing-index _ c.loop-thing-test.true
      (λ lies. let f : false ≡ true = c.if-not-lies_in_segment.ensures.1 lies in cc) c.loop-thing.invariant h),
)
