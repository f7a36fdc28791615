pub mod Entries
pub mod Overlaps
pub mod References
pub mod Seen
pub mod Sweep
