use Rattle.std.proofs.Common.{◌≡◌, ◌+◌, ◌≤◌, ◌<◌, ℕ}
use Rattle.std.specs.Prelude.{Some, slice_index}
use Rattle.elf_model.specs.Image.RightLink.{byte_at}
use Rattle.memory_judge.proofs.numbers.holds_number.Given as goal

abbrev pub invariant-loop-k : goal.invariant-loop-k
invariant-loop-k l = record {
  within : l.k ≤ l.width;
  same : (j : ℕ) → j < l.k → byte_at l.image (l.at + l.offset + j) ≡ Some (slice_index l.bytes j);
}
