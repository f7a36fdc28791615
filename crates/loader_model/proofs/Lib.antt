pub mod ImageFacts
pub mod MemoryLemmas
pub mod Neighbours
pub mod Pages
pub mod TableOrder
pub mod SegmentsApart
