pub mod KeptPlaces
pub mod ListedPlaces
pub mod Overlapping
