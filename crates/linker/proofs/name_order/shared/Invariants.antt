use Rattle.std.proofs.Common.{◌≡◌, take}
use Rattle.linker.proofs.name_order.shared.Given as goal

abbrev pub invariant-loop-k : goal.invariant-loop-k
invariant-loop-k l = take l.k l.front ≡ take l.k l.name
