use Rattle.std.proofs.Common.{◌≡◌, drop}
use Rattle.elf_model.specs.Marks.{marked}
use Rattle.comdat.proofs.marks.mark.Given as goal

abbrev pub invariant-loop-number : goal.invariant-loop-number
invariant-loop-number l = marked l.marks (drop l.number-index l.numbers) ≡ marked l.initial.marks l.numbers
