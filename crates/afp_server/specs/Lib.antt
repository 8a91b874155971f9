pub mod connection
pub mod doors
pub mod link
