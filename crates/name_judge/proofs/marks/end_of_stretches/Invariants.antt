use Rattle.std.proofs.Common.{ℕ, ◌≤◌, drop}
use Rattle.std.specs.Prelude.{◌↔◌, All}
use Rattle.name_judge.specs.Clear.{EndsBy}
use Rattle.name_judge.proofs.marks.end_of_stretches.Given as goal

abbrev pub invariant-loop-stretch : goal.invariant-loop-stretch
invariant-loop-stretch l = (v : ℕ) → ((l.end ≤ v) × All (EndsBy v) (drop l.stretch-index l.stretches)) ↔ All (EndsBy v) l.stretches
