pub mod Image
pub mod Inputs
pub mod Link
pub mod Marks
pub mod NameHash
pub mod Own
