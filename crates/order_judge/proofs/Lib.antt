pub mod AskedLaws
pub mod InTurn
pub mod LineLaws
pub mod NameLaws
pub mod OrderLaws
pub mod SortedPairs
