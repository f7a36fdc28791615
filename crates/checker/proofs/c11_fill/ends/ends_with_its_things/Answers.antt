use Rattle.checker.proofs.ThingsOfSegment.{ends_of_part}
use Rattle.checker.proofs.c11_fill.ends.ends_with_its_things.Goals as goal

pub returns : goal.returns
returns c =
    let part =
    ends_of_part c.args.segment.now c.args.sorted.now c.begun_between.result.now c.begun_between.ensures.there c.begun_between.ensures.all in (
      λ e. part.1 (c.ends_right.ensures.0 e),
      λ h. c.ends_right.ensures.1 (part.0 h),
    )
