pub mod Putting
pub mod Gathered
pub mod Told
