pub mod Nops
pub mod Padded
