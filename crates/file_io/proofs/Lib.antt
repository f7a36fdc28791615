pub mod Gatherings
mod PartFills
mod PartReads
