pub mod Runs
pub mod SectionRuns
pub mod StreamLaws
pub mod StreamSteps
mod GotBytes
pub mod BodySteps
pub mod BodyBytes
pub mod Fills
pub mod Wholes
pub mod OwnBody
pub mod Files
pub mod PieceSteps
pub mod Written
pub mod TableParts
pub mod Tabled
