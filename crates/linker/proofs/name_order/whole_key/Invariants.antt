use Rattle.std.proofs.Common.{◌≡◌}
use Rattle.linker.specs.NameKeys.{key_with}
use Rattle.linker.proofs.name_order.whole_key.Given as goal

abbrev pub invariant-loop-byte : goal.invariant-loop-byte
invariant-loop-byte l = l.key ≡ key_with l.byte-index l.bytes
