pub mod FileIds
pub mod Placed
pub mod Sources
