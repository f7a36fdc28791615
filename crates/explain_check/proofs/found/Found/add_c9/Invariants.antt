use Rattle.explain_check.specs.Places.{AreFailures}
use Rattle.explain_check.proofs.found.Found.add_c9.Given as goal

abbrev pub invariant-loop-object : goal.invariant-loop-object
invariant-loop-object l = AreFailures l.bound l.self.places.items
