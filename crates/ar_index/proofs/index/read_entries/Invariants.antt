use Rattle.ar_index.proofs.IndexSteps.{AreReadSoFar}
use Rattle.ar_index.proofs.index.read_entries.Given as goal

abbrev pub invariant-loop-i : goal.invariant-loop-i
invariant-loop-i l = AreReadSoFar l.width l.index l.count l.i l.entries.items l.rest
