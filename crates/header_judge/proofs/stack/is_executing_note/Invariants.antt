use Rattle.std.proofs.Common.{◌≡◌, drop}
use Rattle.std.specs.List.{list_any}
use Rattle.elf_model.specs.Inputs.ObjectFile.{sections}
use Rattle.header_judge.specs.Rights.{asks}
use Rattle.header_judge.proofs.stack.is_executing_note.Given as goal

abbrev pub invariant-loop-i : goal.invariant-loop-i
invariant-loop-i l = list_any (asks l.object) (sections l.object) ≡ list_any (asks l.object) (drop l.i (sections l.object))
