pub mod OfLines
pub mod OfTexts
pub mod OfCalls
