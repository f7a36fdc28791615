pub mod RelocationPlaces
