use Rattle.checker.proofs.ThingsOfSegment.{filled_of_part}
use Rattle.checker.proofs.c11_fill.is_region_filled.Goals as goal

pub returns : goal.returns
returns c =
    let region = c.args.region.now in
    let part =
    filled_of_part region.bytes.now region.start region.top region.fill c.args.stretches.now c.lying_between.result.now
    c.lying_between.ensures.there c.lying_between.ensures.all in (
      λ e. part.1 (c.is_filled.ensures.0 e),
      λ h. c.is_filled.ensures.1 (part.0 h),
    )
