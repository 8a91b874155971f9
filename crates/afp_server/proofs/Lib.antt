pub mod OfConnection
pub mod OfDoors
pub mod OfLink
