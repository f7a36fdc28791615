pub mod Asked
pub mod Faults
pub mod Lines
pub mod Listed
pub mod MemberNames
pub mod Origins
pub mod Pairs
pub mod Turns
