pub mod ArchiveText
