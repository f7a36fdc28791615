pub mod Views
pub mod PhraseViews
pub mod Steps
pub mod PlaceViews
pub mod Candidates
pub mod RefusedWords
