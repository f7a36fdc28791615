use Rattle.std.proofs.Common.{refl}
use Rattle.judge_model.specs.declared.judgement.Requirement.TheVariants.{F4, F5, F6, F7}
use Rattle.link_judge.proofs.Requirements.{before_next}
use Rattle.link_judge.proofs.verdict.judge_names.Goals as goal

pub judge_rests-requires-clause-before : goal.judge_rests-requires-clause-before
judge_rests-requires-clause-before c =
    let l = c.args.bound.now in
    let fifth = before_next l F4 F5 refl c.requires.before (c.in_ok-holds.ensures.0 c.if-not-branch.false) in
    before_next l F6 F7 refl (before_next l F5 F6 refl fifth (c.wrong.ensures.right c.in_default.is)) tt
