pub mod Beginnings
pub mod DropLines
pub mod Values
pub mod Behind
pub mod OwnCommons
pub mod OwnMaps
pub mod OwnTexts
pub mod OwnSpelled
pub mod Tabled
pub mod Links
pub mod Listings
pub mod LevelLaws
pub mod NameKeyLaws
pub mod InOrderLaws
pub mod PlaceLines
pub mod Spellings
pub mod FinalRefusals
mod SlotLines
pub mod OwnUnfit
mod SortedOnce
mod SpelledMaps
mod SymbolLines
