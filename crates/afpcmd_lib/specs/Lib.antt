pub mod Status
pub mod Command
pub mod Words
pub mod Refusals
