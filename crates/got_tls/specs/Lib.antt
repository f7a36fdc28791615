pub mod AskedViews
pub mod Askers
pub mod Asking
pub mod Positions
pub mod ThreadStorage
pub mod Views
