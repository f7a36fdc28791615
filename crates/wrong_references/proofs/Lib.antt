pub mod EachOverlap
pub mod EachReference
pub mod EntryFields
pub mod Sweeps
pub mod Undefined
pub mod Unwrong
