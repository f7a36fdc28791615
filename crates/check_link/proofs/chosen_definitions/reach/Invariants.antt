use Rattle.std.proofs.Common.{◌≡◌, ◌≤◌, ◌+◌, ◌-◌, ℕ, length}
use Rattle.std.specs.Prelude.{max}
use Rattle.check_link.specs.Chosen.{position_at}
use Rattle.check_link.proofs.chosen_definitions.reach.Given as goal

abbrev pub invariant-loop-positions : goal.invariant-loop-positions
invariant-loop-positions l = record {
  same : (i : ℕ) → position_at l.positions.items i ≡ position_at l.fn.positions.items i;
  size : length l.positions.items ≤ max (length l.fn.positions.items) (l.number + 1);
}

abbrev pub decreases-loop-positions : goal.decreases-loop-positions
decreases-loop-positions l = l.number + 1 - length l.positions.items
