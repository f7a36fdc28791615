pub mod Limits
pub mod PlaceViews
pub mod Views
