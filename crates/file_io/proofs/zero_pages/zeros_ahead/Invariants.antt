use Rattle.std.proofs.Common.{◌≡◌, ◌≤◌, drop, length, replicate, take}
use Rattle.file_io.proofs.zero_pages.zeros_ahead.Given as goal

abbrev pub invariant-loop-rest : goal.invariant-loop-rest
invariant-loop-rest l = record {
  within : l.count ≤ length l.bytes;
  rest : l.rest ≡ drop l.count l.bytes;
  zeros : take l.count l.bytes ≡ replicate l.count 0;
}

abbrev pub decreases-loop-rest : goal.decreases-loop-rest
decreases-loop-rest l = length l.rest
