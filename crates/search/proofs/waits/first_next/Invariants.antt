use Rattle.std.proofs.Common.{◌≡◌, ℕ, true}
use Rattle.search.specs.Places.{is_waiting, waiting_count}
use Rattle.search.specs.Waiting.{NextWait}
use Rattle.search.proofs.waits.first_next.Given as goal

abbrev pub invariant-loop-i : goal.invariant-loop-i
invariant-loop-i g l = record {
  wait : NextWait l.loader l.item l.entries l.archive l.waiting;
  others : (k q : ℕ) → (k ≡ l.archive → ⊥) → is_waiting l.fn.waiting k q ≡ true → is_waiting l.waiting k q ≡ true;
}

abbrev pub decreases-loop-i : goal.decreases-loop-i
decreases-loop-i g l = waiting_count l.waiting
