use Rattle.std.proofs.Common.{◌+◌, ◌-◌, ◌≤◌, ◌<◌}
use Rattle.check_link.specs.SameRuns.{AreSame}
use Rattle.check_link.proofs.same_runs.same_words.Given as goal

abbrev pub invariant-words : goal.invariant-words
invariant-words l = record {
  begun : l.from ≤ l.at;
  near : l.at < l.last + 8;
  same : AreSame l.a l.b l.from l.at;
}

abbrev pub decreases-words : goal.decreases-words
decreases-words l = l.last - l.at
