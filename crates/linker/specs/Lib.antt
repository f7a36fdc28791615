pub mod FinalRefusals
pub mod InOrder
pub mod Linkages
pub mod NameKeys
pub mod Outputs
pub mod OwnDefinitions
pub mod Refusals
pub mod Spelled
