pub mod Bits
pub mod NoteBytes
pub mod Link
