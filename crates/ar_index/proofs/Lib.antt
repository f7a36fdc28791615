mod Ascending
mod IndexSteps
mod LongTexts
mod NameSteps
pub mod PartLaws
mod PartSteps
mod Places
pub mod Steps
pub mod Walk
