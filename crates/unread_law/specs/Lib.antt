pub mod PartFiles
pub mod Unread
