pub mod Plans
pub mod SaidSteps
pub mod Starts
