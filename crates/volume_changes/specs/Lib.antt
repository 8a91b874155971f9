pub mod records
pub mod steps
