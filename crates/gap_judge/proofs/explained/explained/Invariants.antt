use Rattle.std.proofs.Common.{◌≡◌, ◌++◌, drop, map}
use Rattle.judge_model.specs.Fields.{slot_thing}
use Rattle.gap_judge.proofs.explained.explained.Given as goal

abbrev pub invariant-loop-at : goal.invariant-loop-at
invariant-loop-at l = l.all.items ++ map slot_thing (drop l.at-index l.slots) ≡ l.things ++ map slot_thing l.slots
