use Rattle.memory_judge.proofs.Padded.{equal_parts}
use Rattle.memory_judge.proofs.rests.are_equal.Goals as goal

pub returns : goal.returns
returns c =
    let both =
    equal_parts c.args.a.now c.args.b.now c.sub_run.result.now c.sub_run-2.result.now c.args.from c.args.to c.sub_run.ensures.short
    c.sub_run-2.ensures.short c.sub_run.ensures.same c.sub_run-2.ensures.same in (
      λ e. both.0 (c.are_equal_padded.ensures.0 e),
      λ h. c.are_equal_padded.ensures.1 (both.1 h),
    )
