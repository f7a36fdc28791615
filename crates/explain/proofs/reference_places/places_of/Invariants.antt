use Rattle.std.proofs.Common.{◌≡◌, Some, take}
use Rattle.std.specs.Prelude.{map}
use Rattle.explain.specs.Flawed.{reference_of}
use Rattle.explain.specs.Places.{AreSo, OfLoaded}
use Rattle.explain.proofs.reference_places.places_of.Given as goal

abbrev pub invariant-loop-flaw : goal.invariant-loop-flaw
invariant-loop-flaw l = record {
  so : AreSo (OfLoaded l.loaded) l.places.items;
  flaws : map reference_of l.places.items ≡ map Some (take l.flaw-index l.flaws);
}
