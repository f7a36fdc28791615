use Rattle.explain_check.specs.Places.{AreFailures}
use Rattle.explain_check.proofs.found.Found.add_c14.Given as goal

abbrev pub invariant-loop-name : goal.invariant-loop-name
invariant-loop-name l = AreFailures l.bound l.self.places.items
