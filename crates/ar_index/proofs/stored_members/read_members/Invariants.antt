use Rattle.std.proofs.Common.{◌-◌, length}
use Rattle.ar_index.proofs.Walk.{Walked}
use Rattle.ar_index.proofs.stored_members.read_members.Given as goal

abbrev pub invariant-loop-at : goal.invariant-loop-at
invariant-loop-at l = Walked l.file l.members.items l.at

abbrev pub decreases-loop-at : goal.decreases-loop-at
decreases-loop-at l = length l.file - l.at
