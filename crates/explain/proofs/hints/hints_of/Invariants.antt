use Rattle.std.specs.Prelude.{All}
use Rattle.explain.specs.Hints.{IsHint}
use Rattle.explain.proofs.hints.hints_of.Given as goal

abbrev pub invariant-loop-name : goal.invariant-loop-name
invariant-loop-name l = All (IsHint l.loaded) l.hints.items
