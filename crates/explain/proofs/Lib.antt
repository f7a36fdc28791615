pub mod Caused
pub mod FlawPlaces
pub mod PairedPlaces
pub mod ReferencePlaces
pub mod Told
