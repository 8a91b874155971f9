pub mod Requests
pub mod Sources
pub mod Gets
pub mod Puts
pub mod Verifies
pub mod Names
