use Rattle.std.proofs.Common.{◌≡◌, replicate, take}
use Rattle.file_io.proofs.zero_pages.greatest.Given as goal

abbrev pub invariant-loop-byte : goal.invariant-loop-byte
invariant-loop-byte l = l.most ≡ 0 → take l.byte-index l.bytes ≡ replicate l.byte-index 0
