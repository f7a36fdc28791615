use Rattle.std.proofs.Common.{ap, sym, ◌∙◌}
use Rattle.std.specs.Prelude.{option_map}
use Rattle.check_relocs.specs.Kinds.{kind_view}
use Rattle.check_relocs.proofs.KindRows.{row_found, row_view, row_width}
use Rattle.check_relocs.proofs.kinds.kind_of.Goals as goal

pub returns-in_err-row-clause-kind : goal.returns-in_err-row-clause-kind
returns-in_err-row-clause-kind c =
    ap (option_map kind_view) c.from_residual.ensures
    ∙ sym (row_found c.args.number ∙ ap (option_map row_view) (sym c.in_err-row.ensures))

pub returns-clause-kind : goal.returns-clause-kind
returns-clause-kind c = sym (row_found c.args.number ∙ ap (option_map row_view) (sym c.in_ok-row.ensures))

pub returns-clause-width : goal.returns-clause-width
returns-clause-width c = row_width c.args.number c.in_ok-row.row c.in_ok-row.ensures
