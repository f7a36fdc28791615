use Rattle.std.proofs.Common.{arith, refl, subst}
use Rattle.std.specs.Prelude.{All}
use Rattle.elf_model.proofs.Rests.{all_end, all_more}
use Rattle.judge_model.specs.Certificates.{name_row}
use Rattle.judge_model.specs.declared.certificate.NameLine.{NameLine}
use Rattle.name_judge.specs.Bounds.{IsRowBehind}
use Rattle.name_judge.proofs.slot_ends.are_rows_behind.Goals as goal

pub loop-row-preserved : goal.loop-row-preserved
loop-row-preserved c =
    all_more (All (λ (r : NameLine). IsRowBehind c.args.parts.now c.args.all c.args.before (name_row r)) c.args.rows.now)
    (λ (r : NameLine). IsRowBehind c.args.parts.now c.args.all c.args.before (name_row r)) c.args.rows.now c.loop-row.row-index
    c.row-item.result c.loop-row-test.true
    (subst (λ (r : NameLine). IsRowBehind c.args.parts.now c.args.all c.args.before (name_row r)) c.row-item.is
    (c.is_row_behind.ensures.0 c.if-not-is_row_behind.false))
    c.loop-row.invariant

pub returns : goal.returns
returns c = (
  λ t.
      all_end (All (λ (r : NameLine). IsRowBehind c.args.parts.now c.args.all c.args.before (name_row r)) c.args.rows.now)
      (λ (r : NameLine). IsRowBehind c.args.parts.now c.args.all c.args.before (name_row r)) c.args.rows.now c.loop-row.row-index
      (omega (arith, c.loop-row-test.false)) c.loop-row.invariant,
  λ all. refl,
)
