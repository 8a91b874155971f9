pub mod OfRecords
pub mod OfSteps
