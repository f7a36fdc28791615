pub mod NewFiles
pub mod Program
pub mod RefusalTexts
pub mod Tasks
