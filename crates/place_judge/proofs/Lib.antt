pub mod CommonLines
pub mod Maps
pub mod Orders
pub mod Parts
