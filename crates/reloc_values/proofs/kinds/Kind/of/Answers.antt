use Rattle.std.proofs.Common.{ap, sym, ◌∙◌}
use Rattle.std.specs.Prelude.{option_map}
use Rattle.reloc_values.specs.Kinds.{kind_view}
use Rattle.reloc_values.proofs.KindRows.{row_found, row_view}
use Rattle.reloc_values.proofs.kinds.Kind.of.Goals as goal

pub returns-in_err-row : goal.returns-in_err-row
returns-in_err-row c =
    ap (option_map kind_view) c.from_residual.ensures
    ∙ sym (row_found c.args.number ∙ ap (option_map row_view) (sym c.in_err-row.ensures))

pub returns : goal.returns
returns c = sym (row_found c.args.number ∙ ap (option_map row_view) (sym c.in_ok-row.ensures))
