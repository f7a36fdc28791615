use Rattle.std.proofs.Common.{◌≡◌, ◌+◌, ◌≤◌, ◌<◌, ℕ}
use Rattle.std.specs.Prelude.{Some, length, slice_index}
use Rattle.elf_model.specs.Image.RightLink.{byte_at}
use Rattle.memory_judge.proofs.numbers.number_at.Given as goal

abbrev pub invariant-loop-k : goal.invariant-loop-k
invariant-loop-k l = record {
  long : length l.bytes ≡ 8;
  within : l.k ≤ l.width;
  read : (j : ℕ) → j < l.k → byte_at l.image (l.at + l.offset + j) ≡ Some (slice_index l.bytes j);
  rest : (j : ℕ) → l.k ≤ j → slice_index l.bytes j ≡ 0;
}
