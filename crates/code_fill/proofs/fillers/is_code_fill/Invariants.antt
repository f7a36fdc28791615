use Rattle.std.proofs.Common.{length}
use Rattle.std.specs.Prelude.{◌↔◌}
use Rattle.code_fill.specs.Padded.{whole}
use Rattle.judge_model.specs.Fill.{IsCodeFill}
use Rattle.code_fill.proofs.fillers.is_code_fill.Given as goal

abbrev pub decreases-loop-len : goal.decreases-loop-len
decreases-loop-len l = length (whole l.rest)

abbrev pub invariant-loop-len : goal.invariant-loop-len
invariant-loop-len l = IsCodeFill (whole l.run) ↔ IsCodeFill (whole l.rest)
