use Rattle.std.proofs.Common.{◌≡◌, ◌++◌, drop, map}
use Rattle.got_tls.specs.Views.{slot_views}
use Rattle.relocate.specs.Values.{slot_value_of, where_in}
use Rattle.relocate.proofs.slots.slot_values.Given as goal

abbrev pub invariant-loop-slot : goal.invariant-loop-slot
invariant-loop-slot l =
    l.values.items ++ map (slot_value_of l.resolved (where_in l.placement)) (slot_views (drop l.slot-index l.listed))
    ≡ map (slot_value_of l.resolved (where_in l.placement)) (slot_views l.listed)
