use Rattle.run_judge.proofs.Topping.{AreTopsTo}
use Rattle.run_judge.proofs.clear.tops_of.Given as goal

abbrev pub invariant-loop-s : goal.invariant-loop-s
invariant-loop-s l = AreTopsTo l.stretches l.s-index l.all.items l.tops
