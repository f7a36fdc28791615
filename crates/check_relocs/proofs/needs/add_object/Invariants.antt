use Rattle.std.proofs.Common.{map}
use Rattle.check_relocs.specs.KnownSlots.{rows_here}
use Rattle.check_relocs.specs.Needs.{AreNeedsKnown}
use Rattle.check_relocs.specs.Referrers.{objects_here, relocation_here, relocations_here}
use Rattle.check_relocs.proofs.NeedSteps.{Gaining}
use Rattle.check_relocs.proofs.needs.add_object.Given as goal

abbrev pub invariant-loop-relocation : goal.invariant-loop-relocation
invariant-loop-relocation l = record {
  known : AreNeedsKnown l.here l.needs l.known;
  gaining :
      Gaining (objects_here l.here) (rows_here l.here) (map (relocation_here l.here) l.relocation-iterator) (relocations_here l.here) l.fn.needs l.needs;
}
