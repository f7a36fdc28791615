-- What goes in: object files, archives, the command, and which file each item has.
pub mod ArchiveFile
pub mod Command
pub mod FileIndex
pub mod Files
pub mod ObjectFile
pub mod Opening
pub mod Records
