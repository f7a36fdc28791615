use Rattle.std.proofs.Common.{drop}
use Rattle.elf_model.proofs.Rests.{Left}
use Rattle.elf_model.specs.Inputs.ObjectFile.{AreGoodRelas}
use Rattle.elf_read.proofs.relas.Run+Rela.is_good.Given as goal

abbrev pub invariant-loop-i : goal.invariant-loop-i
invariant-loop-i l = Left (AreGoodRelas l.count l.self) (AreGoodRelas l.count (drop l.i l.self))
