use Rattle.std.proofs.Common.{◌+◌, ◌<◌, ℕ}
use Rattle.std.specs.Prelude.{IsSome}
use Rattle.elf_model.specs.Image.RightLink.{byte_at}
use Rattle.note_judge.proofs.notes.is_mapped.Given as goal

abbrev pub invariant-loop-offset : goal.invariant-loop-offset
invariant-loop-offset l = (k : ℕ) → k < l.offset → IsSome (byte_at l.image (l.at + k))
