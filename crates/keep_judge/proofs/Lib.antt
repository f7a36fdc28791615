mod CollectedLaws
mod GroupMarks
pub mod KeptLaws
mod Numbered
