pub mod Paths
pub mod DrawnSteps
