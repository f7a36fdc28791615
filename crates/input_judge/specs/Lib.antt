pub mod Apart
pub mod Compiled
pub mod Edited
pub mod Inside
pub mod Joined
pub mod SectionSets
pub mod Unique
pub mod WholeCode
