use Rattle.std.proofs.Common.{rules}
use Rattle.check_link.proofs.PositionSteps.{places_none}
use Rattle.check_link.proofs.slot_positions.SlotPositions.new.Goals as goal

pub returns : goal.returns
returns c = λ names q.
    places_none (record { values = c.new.result; threads = c.new-2.result; others = c.new-3.result }) c.new.ensures.items c.new-2.ensures.items
    (λ r. search rules) names q
