use Rattle.std.proofs.Common.{◌≡◌, ◌++◌, drop, map}
use Rattle.judge_model.specs.Placed.{stretch_thing}
use Rattle.place_judge.proofs.things.add_stretches.Given as goal

abbrev pub invariant-loop-stretch : goal.invariant-loop-stretch
invariant-loop-stretch l =
    l.things.items ++ map stretch_thing (drop l.stretch-index l.stretches) ≡ l.initial.things.items ++ map stretch_thing l.stretches
