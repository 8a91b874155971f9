pub mod keepers
pub mod turns
