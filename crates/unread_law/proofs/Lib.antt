pub mod Headers
pub mod Members
pub mod Archives
pub mod Loading
pub mod Files
pub mod RightLinks
pub mod PartArchives
pub mod PartFound
pub mod PartLinks
mod Examples
