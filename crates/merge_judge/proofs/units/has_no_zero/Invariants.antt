use Rattle.std.proofs.Common.{◌+◌, ◌*◌, ◌<◌, ℕ}
use Rattle.judge_model.specs.Merged.{IsZeroUnit}
use Rattle.merge_judge.proofs.units.has_no_zero.Given as goal

abbrev pub invariant-loop-j : goal.invariant-loop-j
invariant-loop-j l = (j : ℕ) → j < l.j → ¬ IsZeroUnit l.bytes l.e (l.offset + j * l.e)
