pub mod Said
pub mod Says
pub mod Sound
pub mod Spelled
pub mod Spoken
pub mod Wider
