use Rattle.std.proofs.Common.{arith, refl, subst, sym, ◌∙◌}
use Rattle.std.proofs.lemmas.Bool.{false≢true}
use Rattle.std.specs.Prelude.{All}
use Rattle.std.proofs.lemmas.List.{take_all}
use Rattle.std.proofs.lemmas.List.Elements.{All-get_or, All-more}
use Rattle.merge_judge.specs.Areas.{IsHeld}
use Rattle.merge_judge.proofs.areas.are_held.Goals as goal

pub loop-a-preserved : goal.loop-a-preserved
loop-a-preserved c =
    All-more (IsHeld c.args.anyway c.args.segments.now) c.args.areas.now c.loop-a.a-index _ c.loop-a-test.true c.loop-a.invariant
    (c.is_held.ensures.0 c.if-not-is_held.false)

pub returns : goal.returns
returns c =
    let areas = c.args.areas.now in
    let past = c.loop-a-test.false in (
      λ t. subst (All (IsHeld c.args.anyway c.args.segments.now)) (take_all c.loop-a.a-index areas (omega (arith, past))) c.loop-a.invariant,
      λ right. refl,
    )

pub returns-then-not-is_held : goal.returns-then-not-is_held
returns-then-not-is_held c = (
  λ t. absurd (false≢true t),
  λ all.
      absurd
      (false≢true
      (sym c.if-not-is_held.true ∙ c.is_held.ensures.1 (All-get_or (IsHeld c.args.anyway c.args.segments.now) c.args.areas.now c.loop-a.a-index _ c.loop-a-test.true all))),
)
