use Rattle.std.proofs.Common.{◌∙◌, List, refl, sym, subst}
use Rattle.std.proofs.lemmas.Bool.{false≢true}
use Rattle.std.specs.Prelude.{IfOk}
use Rattle.elf_model.specs.Link.Placement.{Placed}
use Rattle.judge_model.specs.Links.{ForeignLink, sections_of}
use Rattle.judge_model.specs.RightForeign.{Holds, IsJudged}
use Rattle.judge_model.specs.declared.judgement.Requirement.TheVariants.{F3, F4}
use Rattle.run_judge.specs.Pairs.{AreRunPairs}
use Rattle.link_judge.specs.Judged.{HoldsBefore, Judges}
use Rattle.link_judge.proofs.Requirements.{before_next}
use Rattle.link_judge.proofs.verdict.judge_sections.Goals as goal

pub no-requires-clause-before : goal.no-requires-clause-before
no-requires-clause-before c = subst (HoldsBefore F3) (sym c.claim-claim.ensures) c.requires.before

pub no-requires-clause-fails : goal.no-requires-clause-fails
no-requires-clause-fails c = λ h.
    false≢true
    (sym c.if-not-branch.true
    ∙ c.in_ok-holds.ensures.1 (subst (Holds F3) (c.claim-claim.ensures ∙ sym c.in_ok-placed.ensures) h))

pub returns-then-not-branch : goal.returns-then-not-branch
returns-then-not-branch c = subst (Judges c.no.result) c.claim-claim.ensures c.no.ensures

pub judge_placed-requires-clause-pairs : goal.judge_placed-requires-clause-pairs
judge_placed-requires-clause-pairs c =
    subst (AreRunPairs (sections_of c.in_ok-placed.placed)) (sym c.deref-5.ensures.value)
    (subst (λ (qs : List Placed). AreRunPairs qs c.in_ok-pairs.pairs.items) c.sections.ensures c.in_ok-pairs.ensures)

pub judge_placed-requires-clause-judged : goal.judge_placed-requires-clause-judged
judge_placed-requires-clause-judged c = subst IsJudged (sym c.in_ok-placed.ensures) c.requires.judged

pub judge_placed-requires-clause-before : goal.judge_placed-requires-clause-before
judge_placed-requires-clause-before c =
    before_next c.in_ok-placed.placed F3 F4 refl (subst (HoldsBefore F3) (sym c.in_ok-placed.ensures) c.requires.before)
    (c.in_ok-holds.ensures.0 c.if-not-branch.false)

pub returns : goal.returns
returns c =
    subst (λ (l : ForeignLink). IfOk c.judge_placed.result (λ j. Judges j l)) c.in_ok-placed.ensures c.judge_placed.ensures
