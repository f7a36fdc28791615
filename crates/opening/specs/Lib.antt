pub mod Faults
pub mod Held
pub mod Opened
pub mod Steps
