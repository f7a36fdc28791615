use Rattle.std.proofs.Common.{drop}
use Rattle.std.specs.Prelude.{All}
use Rattle.elf_model.proofs.Rests.{Left}
use Rattle.judge_model.specs.Frames.{IsWholeLine}
use Rattle.frame_judge.proofs.whole_lines.are_lines_whole.Given as goal

abbrev pub invariant-loop-line : goal.invariant-loop-line
invariant-loop-line l = Left (All (IsWholeLine l.framed) l.lines) (All (IsWholeLine l.framed) (drop l.line-index l.lines))
