use Rattle.std.proofs.Common.{◌≡◌, ◌++◌, drop}
use Rattle.judge_model.specs.Placed.{mapped_parts}
use Rattle.place_judge.proofs.things.add_parts.Given as goal

abbrev pub invariant-loop-h : goal.invariant-loop-h
invariant-loop-h l =
    l.things.items ++ mapped_parts (drop l.h-index l.segments) l.offset l.size
    ≡ l.initial.things.items ++ mapped_parts l.segments l.offset l.size
