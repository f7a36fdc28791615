pub mod Entries
mod SectionLemmas
pub mod Faults
pub mod FirstBytes
mod Whole
mod Lookups
mod Named
mod SectionBytes
mod Runs
mod RelaRuns
mod KeptRelas
mod RelaFaults
mod GroupLists
mod GroupFaults
