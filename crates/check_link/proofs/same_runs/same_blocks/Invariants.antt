use Rattle.std.proofs.Common.{◌+◌, ◌-◌, ◌≤◌, ◌<◌}
use Rattle.check_link.specs.SameRuns.{AreSame}
use Rattle.check_link.proofs.same_runs.same_blocks.Given as goal

abbrev pub invariant-vectors : goal.invariant-vectors
invariant-vectors l = record {
  begun : l.from ≤ l.at;
  near : l.at < l.last + 32;
  same : AreSame l.a l.b l.from l.at;
}

abbrev pub decreases-vectors : goal.decreases-vectors
decreases-vectors l = l.last - l.at
