pub mod OfEnds
pub mod OfLines
