use Rattle.std.proofs.Common.{ℕ, ◌≤◌, drop}
use Rattle.std.specs.Prelude.{◌↔◌, All}
use Rattle.name_judge.specs.Clear.{IsSlotBy}
use Rattle.name_judge.proofs.slot_ends.end_of_slots.Given as goal

abbrev pub invariant-loop-slot : goal.invariant-loop-slot
invariant-loop-slot l =
    (v : ℕ) → ((l.end ≤ v) × All (IsSlotBy l.zeros v) (drop l.slot-index l.slots)) ↔ All (IsSlotBy l.zeros v) l.slots
