pub mod ChosenReferences
mod ChosenValues
pub mod Fitted
pub mod Judged
pub mod RelaOrders
mod FieldRuns
pub mod ObjectFields
pub mod ObjectRows
pub mod OwnParts
pub mod Rows
pub mod RowSteps
pub mod Wanted
pub mod WantedParts
pub mod LinkerMeanings
pub mod LocalReferences
pub mod ShortFields
pub mod SymbolTables
