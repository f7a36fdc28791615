use Rattle.std.proofs.Common.{refl, sym, subst}
use Rattle.judge_model.specs.declared.judgement.Requirement.TheVariants.{F1, F2}
use Rattle.link_judge.specs.Judged.{HoldsBefore}
use Rattle.link_judge.proofs.Requirements.{before_first, before_next}
use Rattle.link_judge.proofs.verdict.judge_kept.Goals as goal

pub no-requires-clause-before : goal.no-requires-clause-before
no-requires-clause-before c =
    let l = c.args.loaded.now in
    subst (HoldsBefore F2) (sym c.claim.ensures) (before_next l F1 F2 refl (before_first l) c.requires.first)
