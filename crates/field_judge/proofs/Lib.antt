pub mod KindRows
pub mod LetterLaws
pub mod OneField
pub mod PlaceLaws
pub mod RowLaws
pub mod SomeRow
