pub mod Marks
pub mod Signatures
