use Rattle.std.proofs.Common.{◌∙◌, sym}
use Rattle.check_link.specs.Slots.{request_view}
use Rattle.check_link.proofs.SlotLines.{line_address, no_address}
use Rattle.check_link.proofs.slots.SlotTable.address.Goals as goal

pub returns-in-Some : goal.returns-in-Some
returns-in-Some c =
    c.address_at.ensures ∙ line_address c.args.self.now.rows (request_view c.args.request.now) c.in-Some.position (sym c.position.ensures ∙ c.in-Some.is)

pub returns-in-None : goal.returns-in-None
returns-in-None c = no_address c.args.self.now.rows (request_view c.args.request.now) (sym c.position.ensures ∙ c.in-None.is)
