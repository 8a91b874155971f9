pub mod OfOnce
pub mod OfSame
