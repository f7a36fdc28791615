use Rattle.std.proofs.Common.{◌∙◌, sym}
use Rattle.symbol_judge.proofs.there.is_there.Goals as goal

pub returns : goal.returns
returns c = (
  λ t. record { there = λ tabled. sym c.has_name.ensures ∙ t },
  λ h. c.has_name.ensures ∙ h.there (sym c.is_tabled.ensures ∙ c.if-not-is_tabled.false),
)
