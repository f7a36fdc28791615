pub mod Listed
pub mod Tabled
