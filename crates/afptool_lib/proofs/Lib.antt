pub mod OfClient
pub mod OfTeller
pub mod OfTool
