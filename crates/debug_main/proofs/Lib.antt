pub mod ChunkSteps
pub mod Devices
pub mod Differences
pub mod Exclusions
pub mod FileParts
pub mod OneImage
pub mod StripFirst
