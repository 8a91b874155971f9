pub mod Checking
pub mod Parcelling
