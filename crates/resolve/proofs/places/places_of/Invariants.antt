use Rattle.elf_model.specs.Link.ChosenSymbols.{chosen_symbols}
use Rattle.resolve.proofs.PlacesByNumber.{AreFirstPlaces}
use Rattle.resolve.proofs.places.places_of.Given as goal

abbrev pub invariant-loop-index : goal.invariant-loop-index
invariant-loop-index l = AreFirstPlaces l.loaded.names (chosen_symbols l.loaded.objects) l.index l.places.items
