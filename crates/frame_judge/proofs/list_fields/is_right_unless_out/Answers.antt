use Rattle.std.proofs.Common.{ap, not, sym, ◌∙◌}
use Rattle.frame_judge.proofs.list_fields.is_right_unless_out.Goals as goal

pub returns : goal.returns
returns c = (
  λ t. record { right = λ there. c.is_right_in_list.ensures.0 t },
  λ h. c.is_right_in_list.ensures.1 (h.right (ap not (sym c.has.ensures ∙ c.if-has.false))),
)
