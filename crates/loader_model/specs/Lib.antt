pub mod Memory
pub mod Rights
pub mod Table
