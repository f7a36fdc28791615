use Rattle.std.proofs.Common.{◌≡◌, ◌++◌, drop}
use Rattle.symbol_judge.specs.Stretches.{reached}
use Rattle.symbol_judge.proofs.stretches.reached_of.Given as goal

abbrev pub invariant-loop-stretch : goal.invariant-loop-stretch
invariant-loop-stretch l = l.found.items ++ reached l.far (drop l.stretch-index l.sorted) ≡ reached 0 l.sorted
