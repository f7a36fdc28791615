use Rattle.std.proofs.Common.{◌≡◌, ◌+◌, ◌≤◌, ◌<◌, ℕ}
use Rattle.std.specs.Prelude.{Some, length, slice_index}
use Rattle.elf_model.specs.Image.RightLink.{byte_at}
use Rattle.memory_judge.proofs.numbers.holds_bytes.Given as goal

abbrev pub invariant-loop-k : goal.invariant-loop-k
invariant-loop-k l = record {
  within : l.k ≤ length l.bytes;
  same : (j : ℕ) → j < l.k → byte_at l.image (l.at + l.offset + j) ≡ Some (slice_index l.bytes j);
}
