use Rattle.std.proofs.Common.{◌+◌, ◌*◌, ◌^◌, ◌≤◌, drop, length, map}
use Rattle.linkmap.specs.Borrowed.{slot_row}
use Rattle.elf_model.specs.Image.RightLink.{StandFrom}
use Rattle.elf_model.proofs.Rests.{Left}
use Rattle.check_link.proofs.SlotSteps.{rows_from}
use Rattle.checker.proofs.c07_got.got_bytes.stand_from.Given as goal

abbrev pub invariant-loop-line : goal.invariant-loop-line
invariant-loop-line l = record {
  low : l.at + 8 * length (drop l.line-index l.lines) ≤ 2 ^ 46;
  left : Left (StandFrom l.address (map slot_row l.lines)) (StandFrom l.at (rows_from l.lines l.line-index));
}
