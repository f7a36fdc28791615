use Rattle.std.proofs.Common.{◌≡◌, ◌++◌, drop}
use Rattle.elf_model.specs.Inputs.ArchiveFile.{ordinary}
use Rattle.ar_index.proofs.members.ordinary_members.Given as goal

abbrev pub invariant-loop-member : goal.invariant-loop-member
invariant-loop-member l = l.members.items ++ ordinary (drop l.member-index l.stored) ≡ ordinary l.stored
