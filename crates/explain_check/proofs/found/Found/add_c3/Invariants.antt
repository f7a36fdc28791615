use Rattle.explain_check.specs.Places.{AreFailures}
use Rattle.explain_check.proofs.found.Found.add_c3.Given as goal

abbrev pub invariant-loop-line : goal.invariant-loop-line
invariant-loop-line l = AreFailures l.loaded l.self.places.items

abbrev pub invariant-loop-block : goal.invariant-loop-block
invariant-loop-block l = AreFailures l.loaded l.self.places.items
