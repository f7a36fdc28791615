use Rattle.std.proofs.Common.{refl}
use Rattle.judge_model.specs.declared.judgement.Requirement.TheVariants.{F7, F8}
use Rattle.link_judge.proofs.Requirements.{before_next}
use Rattle.link_judge.proofs.verdict.judge_rests.Goals as goal

pub judge_frames-requires-clause-before : goal.judge_frames-requires-clause-before
judge_frames-requires-clause-before c = before_next c.args.bound.now F7 F8 refl c.requires.before (c.in_ok-rest.ensures.right c.in_default.is)
