-- What is this linker's only: its layout, the image and the map that it writes, and why it refuses. No crate of the
-- checker imports any of it (tools/quick_check.sh says so).
pub mod Causes
pub mod ImageFile
pub mod OwnAddresses
pub mod OwnLayout
