pub mod OfSteps
pub mod OfRounds
pub mod OfRun
