use Rattle.std.proofs.Common.{◌≡◌, ◌++◌, drop}
use Rattle.check_places.specs.Sweeps.{stretched}
use Rattle.checker.proofs.c11_fill.stretches.stretched.Given as goal

abbrev pub invariant-loop-thing : goal.invariant-loop-thing
invariant-loop-thing l = l.out.items ++ stretched l.end (drop l.thing-index l.sorted) ≡ stretched 0 l.sorted
