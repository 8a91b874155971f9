pub mod log
pub mod made
