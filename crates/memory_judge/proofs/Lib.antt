pub mod BesideFields
pub mod NumberBytes
pub mod Padded
pub mod SpanLaws
