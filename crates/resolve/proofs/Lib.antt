pub mod ChosenLaws
pub mod Gathered
mod LeftNames
pub mod KeptSteps
pub mod Located
pub mod NamedNumbers
pub mod NamedOnce
pub mod Offers
pub mod Leaders
mod NamedOutputs
pub mod OutputKeys
pub mod OutputSteps
pub mod SectionWalks
pub mod PlacesByNumber
mod ArrayNames
mod BlockNames
mod ChosenPlaces
pub mod Rests
pub mod SoundWalk
pub mod Takings
pub mod Walks
pub mod ThreadFlags
