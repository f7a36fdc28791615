use Rattle.std.proofs.Common.{◌≡◌, ◌≤◌, ◌-◌, drop, length}
use Rattle.elf_model.specs.NameHash.{tail_word}
use Rattle.elf_model.proofs.name_hash.tail_word.Given as goal

abbrev pub invariant-loop-at : goal.invariant-loop-at
invariant-loop-at l = (l.word ≡ tail_word (drop l.at l.bytes)) × (l.at ≤ length l.bytes) × (l.from ≤ length l.bytes → l.from ≤ l.at) × (length l.bytes ≤ l.from → length l.bytes ≤ l.at)

abbrev pub decreases-loop-at : goal.decreases-loop-at
decreases-loop-at l = l.at - l.from
