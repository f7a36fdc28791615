use Rattle.std.proofs.Common.{refl, arith}
use Rattle.gap_judge.specs.Fill.{HoldsFillIn}
use Rattle.gap_judge.proofs.FillLaws.{if_any, none_between}
use Rattle.gap_judge.proofs.gaps.holds_fill_if_any.Goals as goal

pub returns-then-from-to : goal.returns-then-from-to
returns-then-from-to c = (
  λ e. none_between (HoldsFillIn c.args.image.now c.args.runs.now c.args.segment.now) c.args.from c.args.to c.if-from-to.true,
  λ all. refl,
)

pub returns : goal.returns
returns c =
    if_any (HoldsFillIn c.args.image.now c.args.runs.now c.args.segment.now) c.args.from c.args.to c.holds_fill.result c.if-from-to.false
    (λ e. record { fill = c.holds_fill.ensures.0 e }, λ h. c.holds_fill.ensures.1 h.fill)
