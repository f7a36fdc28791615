use Rattle.std.proofs.Common.{◌-◌, length}
use Rattle.bad_members.proofs.Due.{IsDue}
use Rattle.bad_members.proofs.walk.bad_member.Given as goal

abbrev pub invariant-loop-at : goal.invariant-loop-at
invariant-loop-at l = IsDue l.file l.at

abbrev pub decreases-loop-at : goal.decreases-loop-at
decreases-loop-at l = length l.file - l.at
