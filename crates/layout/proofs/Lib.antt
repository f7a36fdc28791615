pub mod Alignments
pub mod ArraySteps
pub mod EndSteps
pub mod ExtentSteps
pub mod Entries
mod GotPieces
pub mod GroupSteps
pub mod KindLemmas
pub mod LaidSteps
pub mod Leading
mod MixedOutputs
pub mod OrderSteps
pub mod OtherPlaces
pub mod OwnAddresses
pub mod OwnBounds
pub mod OwnThreads
pub mod PieceEntries
pub mod PlaceSteps
pub mod PartSteps
pub mod ThreadSteps
