pub mod Exchanging
pub mod Copying
