use Rattle.std.proofs.Common.{◌≡◌, length}
use Rattle.linkmap.specs.Reading.{name_at, with_front}
use Rattle.linkmap.proofs.names.read_spelled.Given as goal

abbrev pub invariant-runs : goal.invariant-runs
invariant-runs l = with_front l.name.items (name_at l.rest) ≡ name_at l.fn.bytes

abbrev pub decreases-runs : goal.decreases-runs
decreases-runs l = length l.rest
