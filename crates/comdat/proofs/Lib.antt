mod DroppedMembers
pub mod GroupFaultLemmas
mod MarkLemmas
mod SignatureLemmas
