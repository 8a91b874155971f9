pub mod words
pub mod server
