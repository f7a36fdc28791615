use Rattle.std.proofs.Common.{◌≡◌, ◌++◌, drop, map}
use Rattle.run_judge.proofs.order.unranked.Given as goal

abbrev pub invariant-loop-r : goal.invariant-loop-r
invariant-loop-r l = l.sections.items ++ map (λ r. r.placed) (drop l.r-index l.all) ≡ map (λ r. r.placed) l.all
