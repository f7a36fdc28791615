use Rattle.ar_index.proofs.NameSteps.{AreNamedSoFar}
use Rattle.ar_index.proofs.names.have_good_names.Given as goal

abbrev pub invariant-loop-member : goal.invariant-loop-member
invariant-loop-member l = AreNamedSoFar l.members l.member-index l.limit l.has_long_names
