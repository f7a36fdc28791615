pub mod NoneFound
pub mod NoteLaws
pub mod Taken
