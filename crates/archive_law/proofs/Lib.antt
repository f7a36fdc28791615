pub mod Cut
pub mod Walk
mod Examples
