pub mod CountedLines
pub mod OwnChoices
pub mod SymbolLines
pub mod TableClause
pub mod TableEntries
pub mod TableLines
pub mod TableParts
pub mod TableSteps
