use Rattle.std.proofs.Common.{◌≡◌, ◌≤◌, ◌^◌, drop, max}
use Rattle.judge_model.specs.Memory.{memory_end}
use Rattle.name_judge.proofs.marks.end_of_memory.Given as goal

abbrev pub invariant-loop-h : goal.invariant-loop-h
invariant-loop-h l = record {
  low : l.end ≤ 2 ^ 47;
  end_is : max l.end (memory_end (drop l.h-index l.segments)) ≡ memory_end l.segments;
}
