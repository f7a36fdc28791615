pub mod Conservative
pub mod Determined
