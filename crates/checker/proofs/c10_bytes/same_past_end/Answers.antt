use Rattle.checker.proofs.Sweeping.{same_parts}
use Rattle.checker.proofs.c10_bytes.same_past_end.Goals as goal

pub returns : goal.returns
returns c =
    let both =
    same_parts c.args.a.now c.args.b.now c.sub_part.result.now c.sub_part-2.result.now c.args.from c.args.to c.requires c.sub_part.ensures.short
    c.sub_part-2.ensures.short c.sub_part.ensures.same c.sub_part-2.ensures.same in (
      λ e. both.0 (c.same_padded.ensures.0 e),
      λ h. c.same_padded.ensures.1 (both.1 h),
    )
