use Rattle.wrong_references.specs.Sweep.{IsSwept}
use Rattle.wrong_references.proofs.overlaps.add_in_order.Given as goal

abbrev pub invariant-loop-i : goal.invariant-loop-i
invariant-loop-i l = IsSwept l.object l.fields l.fn.flaws.items l.i l.furthest l.flaws.items
