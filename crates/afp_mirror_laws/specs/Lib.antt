pub mod Rows
pub mod Swept
pub mod Paired
pub mod Reached
pub mod ReadBack
