use Rattle.std.proofs.Common.{◌∙◌, arith, refl, sym}
use Rattle.std.proofs.lemmas.Bool.{false≢true}
use Rattle.field_judge.proofs.SomeRow.{any_at, any_end, any_next}
use Rattle.field_judge.specs.Rewritten.{IsRewrittenIn, instruction_view}
use Rattle.field_judge.proofs.rewritten.is_by_one.Goals as goal

pub loop-row-init : goal.loop-row-init
loop-row-init c = λ g given some. some

pub loop-row-preserved : goal.loop-row-preserved
loop-row-preserved c = λ g given some.
    any_next (IsRewrittenIn c.args.image.now c.args.taken.now g c.args.kind c.args.front (instruction_view c.args.i)) c.args.rows.now
    c.loop-row.row-index _ c.loop-row-test.true (λ h. false≢true (sym c.if-is_by.false ∙ (c.is_by.ensures g given).1 h))
    (c.loop-row.invariant g given some)

pub returns-then-is_by : goal.returns-then-is_by
returns-then-is_by c = λ g given. (
  λ t.
      any_at (IsRewrittenIn c.args.image.now c.args.taken.now g c.args.kind c.args.front (instruction_view c.args.i)) c.args.rows.now
      c.loop-row.row-index _ c.loop-row-test.true ((c.is_by.ensures g given).0 c.if-is_by.true),
  λ some. refl,
)

pub returns : goal.returns
returns c = λ g given. (
  λ t. absurd (false≢true t),
  λ some.
      absurd
      (any_end (IsRewrittenIn c.args.image.now c.args.taken.now g c.args.kind c.args.front (instruction_view c.args.i)) c.args.rows.now
      c.loop-row.row-index (let end = c.loop-row-test.false in omega (arith, end)) (c.loop-row.invariant g given some)),
)
