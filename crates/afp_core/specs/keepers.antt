pub mod Loads
pub mod Retiring
pub mod lemma
