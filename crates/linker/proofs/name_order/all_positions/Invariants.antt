use Rattle.std.proofs.Common.{◌≡◌}
use Rattle.std.specs.List.{range_with_len}
use Rattle.linker.specs.NameKeys.{positions}
use Rattle.linker.proofs.name_order.all_positions.Given as goal

abbrev pub invariant-loop-position : goal.invariant-loop-position
invariant-loop-position l = positions l.keys.items ≡ range_with_len 0 l.position
