pub mod OfLine
pub mod OfAsker
pub mod OfRun
