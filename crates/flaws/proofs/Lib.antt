pub mod Additions
pub mod Each
pub mod Flawless
pub mod Located
pub mod Twins
