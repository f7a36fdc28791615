pub mod EachItem
pub mod ItemWalks
pub mod NoneLeft
