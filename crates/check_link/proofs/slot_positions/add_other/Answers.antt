use Rattle.std.proofs.Common.{◌∙◌, refl, sym}
use Rattle.check_link.specs.Slots.{request_view}
use Rattle.check_link.proofs.SlotSteps.{slot_added}
use Rattle.check_link.proofs.slot_positions.add_other.Goals as goal

pub returns-clause-positions : goal.returns-clause-positions
returns-clause-positions c =
    slot_added c.args.table.now c.insert.new.self c.args.request c.args.position (request_view c.args.request) refl
    (sym c.contains_key.ensures ∙ c.if-contains_key.false) c.in_ok-insert.ensures.updates
