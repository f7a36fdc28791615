pub mod Low
pub mod Right
