use Rattle.std.proofs.Common.{◌≡◌, ◌-◌}
use Rattle.judge_model.specs.Notes as spec
use Rattle.note_judge.proofs.features.bits_behind.Given as goal

abbrev pub invariant-loop : goal.invariant-loop
invariant-loop l = spec.bits_behind l.most l.properties ≡ spec.bits_behind (l.most - l.counter) l.rest
