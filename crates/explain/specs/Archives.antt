-- What a note of an archive says: the archive is one of the plan's items, whose index names a member for the name, and the fact that is
-- told of this member is so where these objects are loaded.
use Rattle.std.specs.Prelude.{List, ℕ}
use Rattle.elf_model.specs.Inputs.Files.{File}
use Rattle.elf_model.specs.Inputs.Opening.{opened}
use Rattle.archive_notes.specs.ArchiveNotes.{IsNoteIn}
use Rattle.archive_notes.specs.declared.note.ArchiveNote.{ArchiveNote}
use Rattle.search.specs.Loads.{LoadedPlan}
use Rattle.explain.specs.Places.{IsLoadedBy}

abbrev pub IsArchiveNote : List File → LoadedPlan → ArchiveNote → Type 0
IsArchiveNote files l n = IsNoteIn l.objects (opened files l.plan) n

-- it is so of what words load from files
abbrev pub IsArchiveNoteOf : List File → List (List ℕ) → ArchiveNote → Type 0
IsArchiveNoteOf files words n = (l : LoadedPlan) × IsLoadedBy files words l × IsArchiveNote files l n
