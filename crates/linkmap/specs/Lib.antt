pub mod Lines
pub mod Reading
pub mod Order
pub mod Borrowed
pub mod Record
pub mod PlainRuns
pub mod SymbolRuns
