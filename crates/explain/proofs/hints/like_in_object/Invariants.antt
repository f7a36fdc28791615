use Rattle.std.specs.Prelude.{IfSome}
use Rattle.explain.specs.Hints.{IsHint}
use Rattle.explain.proofs.hints.like_in_object.Given as goal

abbrev pub invariant-loop-j : goal.invariant-loop-j
invariant-loop-j l = IfSome l.best (IsHint l.loaded)
