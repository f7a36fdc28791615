pub mod HashedRows
pub mod NameRows
pub mod OfferLaws
pub mod RowLaws
