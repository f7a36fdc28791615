use Rattle.std.proofs.Common.{◌∙◌, subst, sym}
use Rattle.std.proofs.lemmas.Bool.{false≢true}
use Rattle.check_link.specs.Views.{placed_views}
use Rattle.run_judge.specs.Clear.{AreStretches}
use Rattle.run_judge.proofs.GapLaws.{near_of, runs_told}
use Rattle.run_judge.proofs.near.are_runs_right.Goals as goal

pub returns-then-not-are_near : goal.returns-then-not-are_near
returns-then-not-are_near c = λ l are placed made. (
  λ e. absurd (false≢true e),
  λ r. absurd (false≢true (sym c.if-not-are_near.true ∙ c.are_near.ensures.1 (near_of l c.args.pairs.now are r))),
)

pub returns : goal.returns
returns c = λ l are placed made.
    let stretched =
    subst (AreStretches c.args.made.now (placed_views c.args.placed.now)) (sym c.deref-2.ensures.value) c.in_ok-stretches.ensures.told in
    let law =
    runs_told l c.args.pairs.now are c.deref-2.result.now (placed_views c.args.placed.now) c.args.made.now placed made stretched c.are_low.ensures
    (c.are_near.ensures.0 c.if-not-are_near.false) in (
      λ e. law.0 (c.are_gaps_clear.ensures.0 e),
      λ r. c.are_gaps_clear.ensures.1 (law.1 r),
    )
