pub mod Events
pub mod Given
pub mod Links
pub mod Whole
