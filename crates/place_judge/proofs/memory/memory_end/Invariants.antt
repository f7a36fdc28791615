use Rattle.std.proofs.Common.{◌≡◌, ◌≤◌, ◌^◌, drop, max}
use Rattle.judge_model.specs.Memory.{memory_end}
use Rattle.place_judge.proofs.memory.memory_end.Given as goal

abbrev pub invariant-loop-h : goal.invariant-loop-h
invariant-loop-h l = record {
  low : l.end ≤ 2 ^ 65;
  end_is : max l.end (memory_end (drop l.h-index l.segments)) ≡ memory_end l.segments;
}
