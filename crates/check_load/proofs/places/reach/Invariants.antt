use Rattle.std.proofs.Common.{◌≡◌, ◌≤◌, ◌+◌, ◌-◌, ℕ, length}
use Rattle.std.specs.Prelude.{max}
use Rattle.check_load.specs.Places.{list_at}
use Rattle.check_load.proofs.places.reach.Given as goal

abbrev pub invariant-loop-alloc : goal.invariant-loop-alloc
invariant-loop-alloc l = record {
  same : (i : ℕ) → list_at l.lists.items i ≡ list_at l.fn.lists.items i;
  size : length l.lists.items ≤ max (length l.fn.lists.items) (l.number + 1);
}

abbrev pub decreases-loop-alloc : goal.decreases-loop-alloc
decreases-loop-alloc l = l.number + 1 - length l.lists.items
