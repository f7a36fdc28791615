pub mod FileBytes
pub mod Parts
pub mod Reading
