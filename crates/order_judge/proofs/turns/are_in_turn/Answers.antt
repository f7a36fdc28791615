use Rattle.std.proofs.Common.{map, refl, sym, ◌∙◌}
use Rattle.std.specs.Prelude.{AllPairs}
use Rattle.std.proofs.lemmas.Bool.{false≢true}
use Rattle.order_judge.specs.Origins.{origin_of_line}
use Rattle.order_judge.specs.Turns.{AreOriginsInTurn}
use Rattle.order_judge.proofs.InTurn.{turn_ends, turn_goes, turn_skips, turn_stops}
use Rattle.order_judge.proofs.turns.are_in_turn.Goals as goal

pub loop-row-preserved-then-not-is_named_at : goal.loop-row-preserved-then-not-is_named_at
loop-row-preserved-then-not-is_named_at c =
    turn_skips c.args.inputs.now (AllPairs (AreOriginsInTurn c.args.inputs.now) (map origin_of_line c.args.rows.now)) c.args.rows.now c.loop-row.row-index
    c.row-item.result c.loop-row-test.true c.row-item.is c.loop-row.last c.loop-row.invariant (sym c.is_named_at.ensures ∙ c.if-not-is_named_at.true)

pub returns-then-not-is_behind : goal.returns-then-not-is_behind
returns-then-not-is_behind c = (
  λ t. absurd (false≢true t),
  λ h. absurd
      (turn_stops c.args.inputs.now (AllPairs (AreOriginsInTurn c.args.inputs.now) (map origin_of_line c.args.rows.now)) c.args.rows.now c.loop-row.row-index
      c.row-item.result c.loop-row-test.true c.row-item.is c.loop-row.last c.loop-row.invariant (sym c.is_named_at.ensures ∙ c.if-not-is_named_at.false)
      (λ before. false≢true (sym c.if-not-is_behind.true ∙ c.is_behind.ensures.1 before)) h),
)

pub loop-row-preserved : goal.loop-row-preserved
loop-row-preserved c =
    turn_goes c.args.inputs.now (AllPairs (AreOriginsInTurn c.args.inputs.now) (map origin_of_line c.args.rows.now)) c.args.rows.now c.loop-row.row-index
    c.row-item.result c.loop-row-test.true c.row-item.is c.loop-row.last c.loop-row.invariant (sym c.is_named_at.ensures ∙ c.if-not-is_named_at.false)
    (c.is_behind.ensures.0 c.if-not-is_behind.false)

pub returns : goal.returns
returns c = (
  λ t. turn_ends c.args.inputs.now (AllPairs (AreOriginsInTurn c.args.inputs.now) (map origin_of_line c.args.rows.now)) c.args.rows.now c.loop-row.row-index
      c.loop-row.last c.loop-row-test.false c.loop-row.invariant,
  λ h. refl,
)
