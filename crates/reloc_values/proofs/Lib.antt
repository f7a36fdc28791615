mod KindRows
pub mod Offsets
pub mod Overlaid
pub mod RisingRows
pub mod Searched
mod ThreadSums
