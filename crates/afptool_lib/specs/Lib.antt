pub mod client
pub mod teller
pub mod tool
