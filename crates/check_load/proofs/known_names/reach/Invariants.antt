use Rattle.std.proofs.Common.{◌≡◌, ◌≤◌, ◌+◌, ◌-◌, ℕ, length}
use Rattle.std.specs.Prelude.{max}
use Rattle.check_load.specs.Names.{state_at}
use Rattle.check_load.proofs.known_names.reach.Given as goal

abbrev pub invariant-loop-states : goal.invariant-loop-states
invariant-loop-states l = record {
  same : (i : ℕ) → state_at l.states.items i ≡ state_at l.fn.states.items i;
  size : length l.states.items ≤ max (length l.fn.states.items) (l.number + 1);
}

abbrev pub decreases-loop-states : goal.decreases-loop-states
decreases-loop-states l = l.number + 1 - length l.states.items
