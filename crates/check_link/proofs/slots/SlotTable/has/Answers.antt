use Rattle.std.proofs.Common.{◌∙◌, ap, ℕ, Option}
use Rattle.std.specs.Prelude.{is_some}
use Rattle.check_link.specs.Slots.{request_view}
use Rattle.check_link.proofs.SlotLines.{has_line}
use Rattle.check_link.proofs.slots.SlotTable.has.Goals as goal

pub returns : goal.returns
returns c = c.is_some.ensures ∙ ap (λ (o : Option ℕ). is_some o) c.position.ensures ∙ has_line c.args.self.now.rows (request_view c.args.request.now)
