use Rattle.std.proofs.Common.{take}
use Rattle.check_relocs.specs.KnownSlots.{AreSymbolsKnown}
use Rattle.checker.specs.Rising.{AreMatched, AreRightHere, fields_of, relocations_of}
use Rattle.checker.proofs.rising_fields.end_of_fields.Given as goal

abbrev pub invariant-loop-rela : goal.invariant-loop-rela
invariant-loop-rela l = record {
  known : AreSymbolsKnown l.here l.known;
  right : AreRightHere l.here (relocations_of l.here (take l.rela-index l.relas));
  matched : AreMatched l.held l.bytes (fields_of l.here (take l.rela-index l.relas)) l.end;
}
