pub mod Drops
pub mod Fields
pub mod MergedLines
pub mod Parts
pub mod Rests
pub mod Slots
pub mod Wrong
