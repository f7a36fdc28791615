pub mod Conserved
pub mod EntryConserved
pub mod InOrder
pub mod Same
pub mod SameParts
pub mod ThreadConserved
