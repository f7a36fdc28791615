use Rattle.std.proofs.Common.{ap, sym, ◌∙◌}
use Rattle.std.specs.Prelude.{option_map}
use Rattle.field_judge.proofs.KindRows.{row_found, row_tells, row_view, row_width}
use Rattle.field_judge.proofs.kinds.foreign_kind.Goals as goal

pub returns-in-Some-clause-kind : goal.returns-in-Some-clause-kind
returns-in-Some-clause-kind c = sym (row_found c.args.number ∙ ap (option_map row_view) (sym c.in-Some.ensures))

pub returns-in-Some-clause-width : goal.returns-in-Some-clause-width
returns-in-Some-clause-width c = row_width c.args.number c.in-Some.row.now (sym c.in-Some.ensures)

pub returns-in-Some-clause-slots : goal.returns-in-Some-clause-slots
returns-in-Some-clause-slots c = row_tells c.args.number c.in-Some.row.now (sym c.in-Some.ensures)

pub returns-in-None-clause-kind : goal.returns-in-None-clause-kind
returns-in-None-clause-kind c = sym (row_found c.args.number ∙ ap (option_map row_view) (sym c.in-None.ensures))
