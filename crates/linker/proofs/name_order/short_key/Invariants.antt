use Rattle.std.proofs.Common.{◌≡◌}
use Rattle.linker.specs.NameKeys.{key_with}
use Rattle.linker.proofs.name_order.short_key.Given as goal

abbrev pub invariant-loop-i : goal.invariant-loop-i
invariant-loop-i l = l.key ≡ key_with l.i l.name
