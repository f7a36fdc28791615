pub mod EachFlaw
pub mod Fitting
pub mod Room
