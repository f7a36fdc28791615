use Rattle.std.proofs.Common.{◌<◌, ℕ}
use Rattle.std.specs.Prelude.{IsSomeAnd}
use Rattle.std.specs.List.{slice_get}
use Rattle.archive_notes.specs.ArchiveNotes.{IsNamedBy}
use Rattle.archive_notes.proofs.notes.archive_note.Given as goal

abbrev pub invariant-loop-k : goal.invariant-loop-k
invariant-loop-k l = (j : ℕ) → j < l.k → ¬ IsSomeAnd (slice_get l.items j) (IsNamedBy l.name)
