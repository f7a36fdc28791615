pub mod Denials
pub mod WrongRelocations
pub mod WrongSlots
