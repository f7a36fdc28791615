pub mod MergedLaws
pub mod Negations
pub mod Requirements
pub mod SharedCode
pub mod Starts
pub mod WrongPlaces
