use Rattle.std.proofs.Common.{drop, map}
use Rattle.check_load.specs.KeptRelocations.{entries_behind, relocations_of_rela}
use Rattle.check_relocs.specs.KnownSlots.{AreSymbolsKnown}
use Rattle.check_relocs.specs.Referrers.{object_here, relocation_here}
use Rattle.checker.proofs.RisingFields.{EntriesLeft}
use Rattle.checker.proofs.rising_fields.end_of_entries.Given as goal

abbrev pub invariant-loop-number : goal.invariant-loop-number
invariant-loop-number l = record {
  known : AreSymbolsKnown l.here l.known;
  left :
      EntriesLeft l.here l.held l.bytes l.from (map (relocation_here l.here) (relocations_of_rela (object_here l.here).bytes l.rela))
      (map (relocation_here l.here) (entries_behind l.rela l.number (drop l.number l.entries))) l.end;
}
