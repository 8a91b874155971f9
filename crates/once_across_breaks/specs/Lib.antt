pub mod once
pub mod same
