use Rattle.explain.specs.Places.{AreSo, OfLoaded}
use Rattle.explain.proofs.wanted.add_object.Given as goal

abbrev pub invariant-loop-n : goal.invariant-loop-n
invariant-loop-n l = AreSo (OfLoaded l.loaded) l.found.places.items

abbrev pub invariant-loop-unfit : goal.invariant-loop-unfit
invariant-loop-unfit l = AreSo (OfLoaded l.loaded) l.found.places.items
