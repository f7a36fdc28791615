use Rattle.std.proofs.Common.{take}
use Rattle.check_relocs.specs.KnownSlots.{AreSymbolsKnown}
use Rattle.checker.specs.Rising.{AreInOrderSoFar}
use Rattle.checker.proofs.rising_fields.have_fields.Given as goal

abbrev pub invariant-loop-placed : goal.invariant-loop-placed
invariant-loop-placed l = record {
  known : AreSymbolsKnown l.here l.known;
  order : AreInOrderSoFar l.here l.memory l.relas (take l.placed-index l.own) l.low;
}
