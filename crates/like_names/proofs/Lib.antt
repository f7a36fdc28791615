pub mod Edits
pub mod Mangled
