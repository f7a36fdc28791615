use Rattle.std.proofs.Common.{◌≤◌, length}
use Rattle.ar_index.proofs.LongTexts.{IsNoneBehind}
use Rattle.ar_index.proofs.names.text_limit.Given as goal

abbrev pub invariant-loop-end : goal.invariant-loop-end
invariant-loop-end l = record { within : l.end ≤ length l.names; none : IsNoneBehind l.names l.end }

abbrev pub decreases-loop-end : goal.decreases-loop-end
decreases-loop-end l = l.end
