pub mod OfRequests
pub mod OfMade
