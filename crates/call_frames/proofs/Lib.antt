pub mod AlikeLaws
pub mod FrameLaws
pub mod ReadingLaws
