pub mod ArchiveNotes
