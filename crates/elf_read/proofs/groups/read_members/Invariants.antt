use Rattle.std.proofs.Common.{◌≡◌, ◌+◌}
use Rattle.byteview.specs.Numbers.{le}
use Rattle.elf_model.specs.Inputs.ObjectFile.{entries}
use Rattle.elf_read.proofs.groups.read_members.Given as goal

abbrev pub invariant-loop-i : goal.invariant-loop-i
invariant-loop-i l = l.members.items ≡ entries le 4 l.file (l.section.sh_offset + 4) l.i
