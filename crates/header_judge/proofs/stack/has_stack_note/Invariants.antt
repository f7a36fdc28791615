use Rattle.std.proofs.Common.{◌≡◌, drop}
use Rattle.std.specs.List.{list_any}
use Rattle.elf_model.specs.Inputs.ObjectFile.{sections}
use Rattle.judge_model.specs.Headers.{is_stack_note}
use Rattle.header_judge.proofs.stack.has_stack_note.Given as goal

abbrev pub invariant-loop-i : goal.invariant-loop-i
invariant-loop-i l = list_any (is_stack_note l.object) (sections l.object) ≡ list_any (is_stack_note l.object) (drop l.i (sections l.object))
