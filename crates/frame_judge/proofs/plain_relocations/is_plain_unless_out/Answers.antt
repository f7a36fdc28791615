use Rattle.std.proofs.Common.{ap, not, sym, ◌∙◌}
use Rattle.frame_judge.proofs.plain_relocations.is_plain_unless_out.Goals as goal

pub returns : goal.returns
returns c = (
  λ t. record { plain = λ there. c.is_plain.ensures.0 t },
  λ h. c.is_plain.ensures.1 (h.plain (ap not (sym c.has.ensures ∙ c.if-has.false))),
)
