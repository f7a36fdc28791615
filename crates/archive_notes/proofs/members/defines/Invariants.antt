use Rattle.std.proofs.Common.{◌<◌, ℕ}
use Rattle.archive_notes.specs.ArchiveNotes.{IsDefinitionAt}
use Rattle.archive_notes.proofs.members.defines.Given as goal

abbrev pub invariant-loop-j : goal.invariant-loop-j
invariant-loop-j l = (k : ℕ) → k < l.j → ¬ IsDefinitionAt l.object l.name k
