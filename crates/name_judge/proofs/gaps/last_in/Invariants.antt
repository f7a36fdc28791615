use Rattle.std.proofs.Common.{ℕ, drop}
use Rattle.std.specs.Prelude.{◌↔◌, All}
use Rattle.name_judge.specs.Clear.{IsBeside, IsFrom}
use Rattle.name_judge.proofs.gaps.last_in.Given as goal

abbrev pub invariant-loop-t : goal.invariant-loop-t
invariant-loop-t l =
    (from : ℕ) → (IsFrom from l.last × All (IsBeside from l.to) (drop l.t-index l.things)) ↔ All (IsBeside from l.to) l.things
