pub mod Archives
pub mod Flawed
pub mod Hints
pub mod Notes
pub mod Places
