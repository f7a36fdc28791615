pub mod Areas
pub mod Lines
pub mod Sections
pub mod Units
