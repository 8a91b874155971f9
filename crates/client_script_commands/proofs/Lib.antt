pub mod OfParts
pub mod OfCommands
pub mod OfGet
pub mod OfLs
pub mod OfParcels
