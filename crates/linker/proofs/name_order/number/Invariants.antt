use Rattle.std.proofs.Common.{◌≡◌, take}
use Rattle.std.specs.Prelude.{All}
use Rattle.linker.specs.NameKeys.{IsKeyed, positions}
use Rattle.linker.proofs.name_order.number.Given as goal

abbrev pub invariant-loop-i : goal.invariant-loop-i
invariant-loop-i l = (positions l.run ≡ positions l.initial.run) × All (IsKeyed l.names l.offset) (take l.i l.run)
