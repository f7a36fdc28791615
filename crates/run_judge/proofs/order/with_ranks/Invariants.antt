use Rattle.std.proofs.Common.{◌≡◌, ◌++◌, drop, map}
use Rattle.run_judge.specs.Pairs.{with_rank}
use Rattle.run_judge.proofs.order.with_ranks.Given as goal

abbrev pub invariant-loop-q : goal.invariant-loop-q
invariant-loop-q l = l.all.items ++ map (with_rank l.addresses) (drop l.q-index l.sections) ≡ map (with_rank l.addresses) l.sections
