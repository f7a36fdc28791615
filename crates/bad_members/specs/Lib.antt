pub mod BadMembers
