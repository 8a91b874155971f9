pub mod requests
pub mod made
