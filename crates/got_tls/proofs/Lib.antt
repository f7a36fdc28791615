pub mod AskedOnce
pub mod Blocks
pub mod Keys
pub mod NoSymbols
pub mod LoadedObjects
pub mod SlotPlaces
pub mod NotedPositions
mod ToldPositions
