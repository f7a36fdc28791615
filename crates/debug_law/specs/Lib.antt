pub mod ReadImages
