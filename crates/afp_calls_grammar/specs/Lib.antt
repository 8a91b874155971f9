pub mod grammar
pub mod fields
