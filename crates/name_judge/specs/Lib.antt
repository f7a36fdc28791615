pub mod Bounds
pub mod Clear
pub mod Unmixed
