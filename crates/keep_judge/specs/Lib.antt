pub mod Collected
pub mod Kept
