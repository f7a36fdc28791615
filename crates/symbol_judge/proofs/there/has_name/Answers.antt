use Rattle.std.proofs.Common.{◌∙◌, ℕ, Option, ap}
use Rattle.std.specs.Prelude.{is_some}
use Rattle.symbol_judge.proofs.NameSteps.{some_number}
use Rattle.symbol_judge.proofs.there.has_name.Goals as goal

pub returns : goal.returns
returns c = c.is_some.ensures ∙ (ap (λ (o : Option ℕ). is_some o) c.find.ensures ∙ some_number c.args.names.now c.args.name.now)
