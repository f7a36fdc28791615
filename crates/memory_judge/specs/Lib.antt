pub mod Numbers
pub mod Rests
pub mod Slots
pub mod Spans
