pub mod ExplainedGaps
pub mod FillLaws
pub mod GapLaws
