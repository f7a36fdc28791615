use Rattle.std.proofs.Common.{length}
use Rattle.std.specs.Prelude.{◌↔◌}
use Rattle.byteview.specs.Runs.{IsAll}
use Rattle.byteview.proofs.compare.all_byte.Given as goal

abbrev pub invariant-vectors : goal.invariant-vectors
invariant-vectors l = IsAll l.x l.fn.a ↔ IsAll l.x l.rest

abbrev pub decreases-vectors : goal.decreases-vectors
decreases-vectors l = length l.rest
