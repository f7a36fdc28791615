use Rattle.std.proofs.Common.{◌≡◌, ◌++◌, drop, map}
use Rattle.judge_model.specs.Placed.{stretch_of}
use Rattle.judge_stages.proofs.stretches.add_stretches.Given as goal

abbrev pub invariant-loop-line : goal.invariant-loop-line
invariant-loop-line l = l.all.items ++ map stretch_of (drop l.line-index l.lines) ≡ l.fn.all.items ++ map stretch_of l.lines
