use Rattle.std.proofs.Common.{◌∙◌, refl, sym, subst}
use Rattle.judge_model.specs.RightForeign.{Holds}
use Rattle.judge_model.specs.declared.judgement.Requirement.TheVariants.{F8, F9, F10}
use Rattle.link_judge.specs.Judged.{HoldsBefore}
use Rattle.link_judge.proofs.Requirements.{before_next}
use Rattle.link_judge.proofs.verdict.judge_frames.Goals as goal

pub no-requires-then-not-holds-clause-before : goal.no-requires-then-not-holds-clause-before
no-requires-then-not-holds-clause-before c =
    let ninth = before_next c.args.bound.now F8 F9 refl c.requires.before (c.in_ok-holds.ensures.0 c.if-not-branch.false) in
    subst (HoldsBefore F9) (sym (c.claim-claim.ensures ∙ c.placed.ensures)) ninth

pub no-requires-then-not-branch-2-clause-before : goal.no-requires-then-not-branch-2-clause-before
no-requires-then-not-branch-2-clause-before c =
    let l = c.args.bound.now in
    let ninth = before_next l F8 F9 refl c.requires.before (c.in_ok-holds.ensures.0 c.if-not-branch.false) in
    let threads = subst (Holds F9) c.placed-2.ensures (c.holds-2.ensures.0 c.if-not-holds.false) in
    subst (HoldsBefore F10) (sym (c.claim-claim.ensures ∙ c.placed.ensures)) (before_next l F9 F10 refl ninth threads)
