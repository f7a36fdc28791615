use Rattle.std.proofs.Common.{◌≡◌, ◌++◌, drop}
use Rattle.judge_model.specs.Frames.{line_addresses}
use Rattle.frame_judge.proofs.addresses.addresses_of.Given as goal

abbrev pub invariant-loop-line : goal.invariant-loop-line
invariant-loop-line l = l.addresses.items ++ line_addresses (drop l.line-index l.lines) ≡ line_addresses l.lines
