use Rattle.std.proofs.Common.{take}
use Rattle.std.specs.Prelude.{All}
use Rattle.linker.specs.NameKeys.{IsBegun}
use Rattle.linker.proofs.name_order.common.Given as goal

abbrev pub invariant-loop-keyed : goal.invariant-loop-keyed
invariant-loop-keyed l = All (IsBegun l.names l.offset l.front) (take l.keyed-index l.run)
