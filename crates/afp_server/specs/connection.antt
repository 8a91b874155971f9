pub mod Connection
pub mod Standing
pub mod Turn
pub mod Whole
pub mod lemma
