use Rattle.std.proofs.Common.{◌≡◌, map, take}
use Rattle.elf_model.specs.Inputs.ObjectFile.{relas_in, sections}
use Rattle.elf_read.specs.Reading.{kept_entries}
use Rattle.elf_read.proofs.object.read_relas.Given as goal

abbrev pub invariant-loop-i : goal.invariant-loop-i
invariant-loop-i l = kept_entries l.relas.items ≡ map (relas_in l.file) (take l.i (sections l.file))
