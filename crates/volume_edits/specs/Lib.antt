pub mod edits
pub mod plans
