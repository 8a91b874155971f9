pub mod OfWords
pub mod OfServer
