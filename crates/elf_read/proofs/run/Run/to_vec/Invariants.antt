use Rattle.std.proofs.Common.{◌≡◌, take}
use Rattle.elf_read.proofs.run.Run.to_vec.Given as goal

abbrev pub invariant-loop-i : goal.invariant-loop-i
invariant-loop-i o l = l.records.items ≡ take l.i l.self
