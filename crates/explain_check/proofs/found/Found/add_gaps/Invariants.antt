use Rattle.explain_check.specs.Places.{AreFailures}
use Rattle.explain_check.proofs.found.Found.add_gaps.Given as goal

abbrev pub invariant-loop-segment : goal.invariant-loop-segment
invariant-loop-segment l = AreFailures l.bound l.self.places.items
