pub mod FaultLaws
pub mod KeptListLaws
pub mod KeptWalks
pub mod LoadLaws
pub mod LoaderLaws
mod LostSections
pub mod NameSets
pub mod NotedNames
pub mod NumberedSymbols
pub mod Numbering
pub mod PlaceLaws
pub mod TurnLaws
pub mod WaitLaws
