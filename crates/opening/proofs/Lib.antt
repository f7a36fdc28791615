pub mod FaultLaws
pub mod HeldLaws
pub mod OpenedLaws
pub mod StepLaws
pub mod TurnSteps
