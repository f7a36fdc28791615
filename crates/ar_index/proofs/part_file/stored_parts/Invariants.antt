use Rattle.std.proofs.Common.{ℕ, ◌≡◌, ◌<◌, ◌^◌}
use Rattle.ar_index.proofs.PartSteps.{AreStoredSoFar}
use Rattle.ar_index.proofs.part_file.stored_parts.Given as goal

abbrev pub invariant-loop-member : goal.invariant-loop-member
invariant-loop-member l = AreStoredSoFar l.members l.member-index l.stored.items l.at
