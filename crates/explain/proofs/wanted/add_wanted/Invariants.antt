use Rattle.explain.specs.Places.{AreSo, OfLoaded}
use Rattle.explain.proofs.wanted.add_wanted.Given as goal

abbrev pub invariant-loop-k : goal.invariant-loop-k
invariant-loop-k l = AreSo (OfLoaded l.loaded) l.found.places.items
