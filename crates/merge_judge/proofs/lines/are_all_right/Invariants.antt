use Rattle.std.proofs.Common.{take}
use Rattle.std.specs.Prelude.{All}
use Rattle.judge_model.specs.Merged.{IsMergedRight}
use Rattle.merge_judge.proofs.lines.are_all_right.Given as goal

abbrev pub invariant-loop-m : goal.invariant-loop-m
invariant-loop-m l = All (IsMergedRight l.image l.sections l.areas) (take l.m-index l.lines)
