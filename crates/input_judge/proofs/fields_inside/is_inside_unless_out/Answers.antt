use Rattle.std.proofs.Common.{ap, not, sym, ◌∙◌}
use Rattle.input_judge.proofs.fields_inside.is_inside_unless_out.Goals as goal

pub returns : goal.returns
returns c = (
  λ t. record { inside = λ there. (c.is_inside.ensures c.args.number).0 t },
  λ h. (c.is_inside.ensures c.args.number).1 (h.inside (ap not (sym c.has.ensures ∙ c.if-has.false))),
)
