pub mod Faults
pub mod Opinions
