use Rattle.std.proofs.Common.{◌≡◌, ◌++◌, drop}
use Rattle.order_judge.proofs.member_names.indexed.Given as goal

abbrev pub invariant-loop-input : goal.invariant-loop-input
invariant-loop-input l = l.all.items ++ drop l.input-index l.inputs ≡ l.inputs
