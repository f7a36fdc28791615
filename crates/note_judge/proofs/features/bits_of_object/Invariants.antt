use Rattle.std.proofs.Common.{◌≡◌, drop}
use Rattle.std.specs.Prelude.{find}
use Rattle.elf_model.specs.Inputs.ObjectFile.{sections}
use Rattle.judge_model.specs.Notes.{is_property_section}
use Rattle.note_judge.proofs.features.bits_of_object.Given as goal

abbrev pub invariant-loop-i : goal.invariant-loop-i
invariant-loop-i l = find (is_property_section l.object) (sections l.object) ≡ find (is_property_section l.object) (drop l.i (sections l.object))
