pub mod Drilled
pub mod lemma
