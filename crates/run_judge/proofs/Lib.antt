pub mod GapLaws
pub mod Ordered
pub mod PairSteps
pub mod RankLaws
pub mod RunNames
pub mod RunSteps
pub mod Stretching
pub mod Topping
