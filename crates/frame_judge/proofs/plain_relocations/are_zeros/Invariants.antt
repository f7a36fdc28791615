use Rattle.std.proofs.Common.{◌≡◌, drop}
use Rattle.judge_model.specs.Frames.{are_zeros}
use Rattle.frame_judge.proofs.plain_relocations.are_zeros.Given as goal

abbrev pub invariant-loop-b : goal.invariant-loop-b
invariant-loop-b l = are_zeros (drop l.b-index l.bytes) ≡ are_zeros l.bytes
