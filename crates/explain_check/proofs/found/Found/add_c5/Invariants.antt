use Rattle.explain_check.specs.Places.{AreFailures}
use Rattle.explain_check.proofs.found.Found.add_c5.Given as goal

abbrev pub invariant-loop-k : goal.invariant-loop-k
invariant-loop-k l = AreFailures l.placed l.self.places.items

abbrev pub invariant-loop-first : goal.invariant-loop-first
invariant-loop-first l = AreFailures l.placed l.self.places.items
