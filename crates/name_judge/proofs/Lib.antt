mod ClearSteps
mod MixedLaw
mod NameLaw
mod RowLaw
mod SlotLaw
mod SlotSteps
