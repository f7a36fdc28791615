pub mod Kinds
pub mod Patches
pub mod Terms
pub mod ThreadOffsets
