pub mod Entries
pub mod Indexes
pub mod Locals
pub mod Names
pub mod Stretches
pub mod Tables
pub mod There
pub mod Wanted
