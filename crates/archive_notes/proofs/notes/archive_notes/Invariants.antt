use Rattle.std.specs.Prelude.{All}
use Rattle.search.specs.Views.{loaded_views}
use Rattle.archive_notes.specs.ArchiveNotes.{IsNoteIn}
use Rattle.archive_notes.proofs.notes.archive_notes.Given as goal

abbrev pub invariant-loop-name : goal.invariant-loop-name
invariant-loop-name l = All (IsNoteIn (loaded_views l.objects) l.items) l.notes.items
