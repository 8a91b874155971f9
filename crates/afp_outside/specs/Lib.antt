pub mod ends
pub mod lines
