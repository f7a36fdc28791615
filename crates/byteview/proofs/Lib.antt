pub mod NumberLaws
mod Fields
mod Texts
pub mod Vectors
