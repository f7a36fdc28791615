pub mod OwnLink
