use Rattle.std.proofs.Common.{◌≡◌, ◌<◌, ℕ, Some}
use Rattle.std.specs.List.{slice_get}
use Rattle.elf_model.specs.Inputs.Opening.{Opened}
use Rattle.search.specs.Places.{IsPlaced}
use Rattle.search.proofs.name_places.places_of.Given as goal

abbrev pub invariant-loop-i : goal.invariant-loop-i
invariant-loop-i l = (k : ℕ) (o : Opened) → k < l.i → slice_get l.inputs k ≡ Some o → IsPlaced l.names.entries k o
