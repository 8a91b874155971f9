pub mod OfGrammar
pub mod OfFields
