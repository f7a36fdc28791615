pub mod ArrayRanks
pub mod DropSteps
pub mod ImageFaults
pub mod Lines
pub mod NearSteps
pub mod NextPieces
pub mod SegmentsApart
pub mod Sweep
