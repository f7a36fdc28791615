use Rattle.explain_check.specs.Places.{AreFailures}
use Rattle.explain_check.proofs.found.Found.add_unfilled.Given as goal

abbrev pub invariant-loop-i : goal.invariant-loop-i
invariant-loop-i l = AreFailures l.bound l.self.places.items
