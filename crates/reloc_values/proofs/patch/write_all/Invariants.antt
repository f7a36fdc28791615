use Rattle.std.proofs.Common.{◌≡◌, ◌<◌, ℕ, drop, length}
use Rattle.reloc_values.specs.Patches.{patched_byte}
use Rattle.reloc_values.proofs.patch.write_all.Given as goal

abbrev pub invariant-loop-patch : goal.invariant-loop-patch
invariant-loop-patch l = (k : ℕ) → k < length l.bytes → patched_byte l.from l.bytes (drop l.patch-index l.patches) k ≡ patched_byte l.from l.initial.bytes l.patches k
