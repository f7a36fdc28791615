pub mod Inputs
pub mod Judged
pub mod Placed
pub mod Rewritten
