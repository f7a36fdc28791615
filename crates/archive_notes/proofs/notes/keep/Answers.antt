use Rattle.std.proofs.lemmas.List.Elements.{All-push}
use Rattle.archive_notes.specs.ArchiveNotes.{IsNoteIn}
use Rattle.archive_notes.proofs.notes.keep.Goals as goal

pub returns : goal.returns
returns c = λ objects items so is. rw c.in_ok-push.ensures.items (All-push (IsNoteIn objects items) _ _ so (rw c.in-Some.is at is))
