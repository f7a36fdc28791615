use Rattle.std.proofs.Common.{◌≡◌, ◌++◌, drop}
use Rattle.memory_judge.specs.Spans.{merged}
use Rattle.memory_judge.proofs.spans.merged.Given as goal

abbrev pub invariant-loop-thing : goal.invariant-loop-thing
invariant-loop-thing l = l.spans.items ++ merged l.from l.to (drop l.thing-index l.sorted) ≡ merged 0 0 l.sorted
