use Rattle.std.specs.Prelude.{IfSome}
use Rattle.explain.specs.Hints.{IsHint}
use Rattle.explain.proofs.hints.like_in_all.Given as goal

abbrev pub invariant-loop-k : goal.invariant-loop-k
invariant-loop-k l = IfSome l.best (IsHint l.loaded)
