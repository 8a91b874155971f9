pub mod Reaching
pub mod Steps
pub mod Ending
