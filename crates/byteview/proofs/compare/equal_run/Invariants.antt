use Rattle.std.proofs.Common.{◌≡◌, length}
use Rattle.std.specs.Prelude.{◌↔◌}
use Rattle.byteview.proofs.compare.equal_run.Given as goal

abbrev pub invariant-vectors : goal.invariant-vectors
invariant-vectors l = record {
  long : length l.a_rest ≡ length l.b_rest;
  same : (l.fn.a ≡ l.fn.b) ↔ (l.a_rest ≡ l.b_rest);
}

abbrev pub decreases-vectors : goal.decreases-vectors
decreases-vectors l = length l.a_rest
