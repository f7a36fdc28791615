use Rattle.std.proofs.Common.{◌≡◌, ◌∙◌, refl, sym, subst}
use Rattle.std.proofs.lemmas.Bool.{false≢true}
use Rattle.judge_model.specs.RightForeign.{Holds}
use Rattle.judge_model.specs.declared.judgement.Requirement.TheVariants.{F11, F12, F13}
use Rattle.link_judge.proofs.Requirements.{all_hold, before_next}
use Rattle.link_judge.proofs.verdict.judge_headers.Goals as goal

pub no-requires-then-not-branch-clause-fails : goal.no-requires-then-not-branch-clause-fails
no-requires-then-not-branch-clause-fails c = λ h.
    let same : c.claim-claim.result.now ≡ c.args.bound.now = c.claim-claim.ensures ∙ c.placed.ensures in
    false≢true (sym c.if-not-branch.true ∙ c.in_ok-holds.ensures.1 (subst (Holds F13) same h))

pub returns : goal.returns
returns c =
    let l = c.args.bound.now in
    let entry = c.holds.ensures.0 c.if-not-holds.false in
    let headers = subst (Holds F12) c.placed-2.ensures (c.holds-2.ensures.0 c.if-not-holds-2.false) in
    let tables = c.in_ok-holds.ensures.0 c.if-not-branch.false in
    record {
      judged = c.requires.judged;
      holds =
          all_hold l (before_next l F12 F13 refl (before_next l F11 F12 refl c.requires.before entry) headers) tables;
    }
