use Rattle.std.proofs.Common.{ℕ, drop}
use Rattle.std.specs.Prelude.{◌↔◌, All}
use Rattle.name_judge.specs.Clear.{IsBeside, IsUpTo}
use Rattle.name_judge.proofs.gaps.next_in.Given as goal

abbrev pub invariant-loop-t : goal.invariant-loop-t
invariant-loop-t l =
    (to : ℕ) → (IsUpTo to l.next × All (IsBeside l.from to) (drop l.t-index l.things)) ↔ All (IsBeside l.from to) l.things
