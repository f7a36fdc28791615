use Rattle.std.proofs.Common.{drop}
use Rattle.elf_model.proofs.Rests.{Left}
use Rattle.elf_read.specs.Reading.{HaveGoodEntries}
use Rattle.elf_read.proofs.relas.have_good_entries.Given as goal

abbrev pub invariant-loop-section : goal.invariant-loop-section
invariant-loop-section l = Left (HaveGoodEntries l.count l.file l.sections) (HaveGoodEntries l.count l.file (drop l.section-index l.sections))
