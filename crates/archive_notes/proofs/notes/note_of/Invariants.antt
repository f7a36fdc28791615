use Rattle.std.proofs.Common.{◌<◌, ℕ}
use Rattle.archive_notes.specs.ArchiveNotes.{NamesObject}
use Rattle.archive_notes.proofs.notes.note_of.Given as goal

abbrev pub invariant-loop-i : goal.invariant-loop-i
invariant-loop-i l = (k : ℕ) → k < l.i → ¬ NamesObject l.archive.bytes l.name k
