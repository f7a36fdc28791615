use Rattle.std.proofs.Common.{drop, map}
use Rattle.elf_model.specs.Image.MapRecord.{object_row}
use Rattle.elf_model.proofs.Rests.{Left}
use Rattle.order_judge.specs.Lines.{AreLines}
use Rattle.order_judge.proofs.lines.are_lines.Given as goal

abbrev pub invariant-loop-number : goal.invariant-loop-number
invariant-loop-number l = Left (AreLines l.inputs 0 (map object_row l.rows)) (AreLines l.inputs l.number (map object_row (drop l.number l.rows)))
