pub mod Telling
pub mod Loads
pub mod Files
pub mod GivenForks
pub mod WrittenBytes
pub mod Lines
