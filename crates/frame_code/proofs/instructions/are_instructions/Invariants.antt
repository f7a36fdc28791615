use Rattle.std.proofs.Common.{◌≡◌, ◌+◌, ◌-◌, length}
use Rattle.judge_model.specs.FrameCode.{are_instructions_by}
use Rattle.frame_code.proofs.instructions.are_instructions.Given as goal

abbrev pub invariant-loop : goal.invariant-loop
invariant-loop l = are_instructions_by (1 + length l.bytes - l.counter) l.rest ≡ are_instructions_by (1 + length l.bytes) l.bytes
