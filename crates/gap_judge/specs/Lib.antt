pub mod Fill
pub mod Gaps
pub mod Links
