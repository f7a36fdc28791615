pub mod Entering
pub mod Far
pub mod Neighbours
pub mod ObjectLines
pub mod Sweeps
