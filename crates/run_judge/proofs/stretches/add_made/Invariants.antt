use Rattle.std.proofs.Common.{ℕ, ◌<◌, ◌≤◌, List, drop}
use Rattle.std.specs.Prelude.{◌↔◌, All}
use Rattle.memory_judge.specs.Spans.{far}
use Rattle.run_judge.specs.Clear.{IsBesideGap, Misses}
use Rattle.run_judge.proofs.stretches.add_made.Given as goal

abbrev pub invariant-loop-thing : goal.invariant-loop-thing
invariant-loop-thing l =
    (name : List ℕ) (from to : ℕ) → from < to → to ≤ far →
    (All (Misses name from to) l.stretches.items × All (IsBesideGap from to) (drop l.thing-index l.made))
    ↔ (All (Misses name from to) l.fn.stretches.items × All (IsBesideGap from to) l.made)
