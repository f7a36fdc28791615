use Rattle.std.proofs.Common.{◌≤◌, drop}
use Rattle.std.specs.Prelude.{◌↔◌, All}
use Rattle.memory_judge.specs.Spans.{far}
use Rattle.run_judge.specs.Clear.{gap_to}
use Rattle.run_judge.proofs.gaps.are_low.Given as goal

abbrev pub invariant-loop-pair : goal.invariant-loop-pair
invariant-loop-pair l = All (λ n. gap_to n ≤ far) l.pairs ↔ All (λ n. gap_to n ≤ far) (drop l.pair-index l.pairs)
