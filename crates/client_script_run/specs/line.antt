pub mod Values
pub mod Run
