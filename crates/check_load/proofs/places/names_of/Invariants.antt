use Rattle.std.proofs.Common.{◌<◌, ℕ, get_or}
use Rattle.elf_model.specs.Inputs.Opening.{Opened}
use Rattle.check_load.specs.Places.{IsPlaced, IsSized}
use Rattle.check_load.proofs.places.names_of.Given as goal

abbrev pub invariant-loop-input : goal.invariant-loop-input
invariant-loop-input l = record {
  sized : IsSized l.names;
  placed : (k : ℕ) (d : Opened) → k < l.input-index → IsPlaced l.names (get_or l.inputs k d);
}
