use Rattle.std.proofs.Common.{◌≤◌, drop}
use Rattle.check_places.specs.Sweeps.{FilledFrom, RegionFilled}
use Rattle.elf_model.proofs.Rests.{Left}
use Rattle.checker.proofs.c11_fill.region.is_filled.Given as goal

abbrev pub invariant-loop-thing : goal.invariant-loop-thing
invariant-loop-thing l = record {
  above : l.region.start ≤ l.from;
  rest :
      Left (RegionFilled l.region.bytes.now l.region.start l.region.top l.region.fill l.sorted)
      (FilledFrom l.region.bytes.now l.region.start l.region.top l.region.fill l.from (drop l.thing-index l.sorted));
}
