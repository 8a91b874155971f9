pub mod Kept
pub mod lemma
