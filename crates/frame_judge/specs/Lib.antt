pub mod Copies
pub mod Held
pub mod List
pub mod Plain
pub mod Sections
pub mod Tables
