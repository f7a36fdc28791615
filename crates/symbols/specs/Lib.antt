pub mod Kinds
pub mod Lists
pub mod Offers
pub mod Owners
pub mod Rows
