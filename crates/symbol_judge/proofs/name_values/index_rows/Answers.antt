use Rattle.std.proofs.Common.{◌≡◌, ◌∙◌, ℕ, None, Option, Some, arith, cond, subst}
use Rattle.std.specs.Option.{option_or}
use Rattle.check_link.specs.ByName.{found_in}
use Rattle.judge_model.specs.Certificates.{NameRow, is_row_of, name_row}
use Rattle.judge_model.specs.declared.certificate.NameLine.{NameLine}
use Rattle.symbol_judge.proofs.IndexSteps.{first_end, first_more}
use Rattle.symbol_judge.proofs.name_values.index_rows.Goals as goal

pub loop-row-preserved : goal.loop-row-preserved
loop-row-preserved c = λ name.
    first_more name_row (λ (r : NameRow). r.value) (is_row_of name) c.args.rows.now (found_in c.loop-row.index name) (found_in c.add_row.new.index name)
    c.loop-row.row-index c.row-item.result c.loop-row-test.true
    (subst
    (λ (r : NameLine). found_in c.add_row.new.index name ≡ option_or (found_in c.loop-row.index name) (cond {A = Option ℕ} (is_row_of name (name_row r)) (Some r.value) None))
    c.row-item.is (c.in_ok-add_row.ensures name))
    ∙ c.loop-row.invariant name

pub returns : goal.returns
returns c = λ name.
    first_end name_row (λ (r : NameRow). r.value) (is_row_of name) c.args.rows.now (found_in c.loop-row.index name) c.loop-row.row-index
    (omega (arith, c.loop-row-test.false)) (c.loop-row.invariant name)
