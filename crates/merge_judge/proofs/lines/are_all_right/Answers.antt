use Rattle.std.proofs.Common.{arith, refl, subst, sym, ◌∙◌}
use Rattle.std.proofs.lemmas.Bool.{false≢true}
use Rattle.std.specs.Prelude.{All}
use Rattle.std.proofs.lemmas.List.{take_all}
use Rattle.std.proofs.lemmas.List.Elements.{All-get_or, All-more}
use Rattle.judge_model.specs.Merged.{IsMergedRight}
use Rattle.merge_judge.proofs.lines.are_all_right.Goals as goal

pub loop-m-preserved : goal.loop-m-preserved
loop-m-preserved c =
    All-more (IsMergedRight c.args.image.now c.args.sections.now c.args.areas.now) c.args.lines.now c.loop-m.m-index _ c.loop-m-test.true c.loop-m.invariant
    (c.is_line_right.ensures.0 c.if-not-is_line_right.false)

pub returns : goal.returns
returns c =
    let lines = c.args.lines.now in
    let past = c.loop-m-test.false in (
      λ t. subst (All (IsMergedRight c.args.image.now c.args.sections.now c.args.areas.now)) (take_all c.loop-m.m-index lines (omega (arith, past))) c.loop-m.invariant,
      λ right. refl,
    )

pub returns-then-not-is_line_right : goal.returns-then-not-is_line_right
returns-then-not-is_line_right c = (
  λ t. absurd (false≢true t),
  λ all.
      absurd
      (false≢true
      (sym c.if-not-is_line_right.true ∙ c.is_line_right.ensures.1 (All-get_or (IsMergedRight c.args.image.now c.args.sections.now c.args.areas.now) c.args.lines.now c.loop-m.m-index _ c.loop-m-test.true all))),
)
