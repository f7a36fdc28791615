use Rattle.std.proofs.Common.{drop}
use Rattle.std.specs.Prelude.{All}
use Rattle.elf_model.specs.Image.RightLink.{EndsRight}
use Rattle.elf_model.proofs.Rests.{Left}
use Rattle.checker.proofs.c11_fill.ends.all_end_right.Given as goal

abbrev pub invariant-loop-segment : goal.invariant-loop-segment
invariant-loop-segment l = Left (All (EndsRight l.sorted) l.segments) (All (EndsRight l.sorted) (drop l.segment-index l.segments))
