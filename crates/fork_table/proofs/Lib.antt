pub mod Entries
pub mod Keeping
pub mod Owning
pub mod References
