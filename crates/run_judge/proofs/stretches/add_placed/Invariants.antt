use Rattle.std.proofs.Common.{ℕ, ◌<◌, ◌≤◌, List, drop}
use Rattle.std.specs.Prelude.{◌↔◌, All}
use Rattle.check_link.specs.Views.{placed_view}
use Rattle.memory_judge.specs.Spans.{far}
use Rattle.run_judge.specs.Clear.{IsBesideIfStrange, Misses}
use Rattle.run_judge.proofs.stretches.add_placed.Given as goal

abbrev pub invariant-loop-q : goal.invariant-loop-q
invariant-loop-q l =
    (name : List ℕ) (from to : ℕ) → from < to → to ≤ far →
    (All (Misses name from to) l.stretches.items × All (λ q. IsBesideIfStrange name from to (placed_view q)) (drop l.q-index l.placed))
    ↔ (All (Misses name from to) l.fn.stretches.items × All (λ q. IsBesideIfStrange name from to (placed_view q)) l.placed)
