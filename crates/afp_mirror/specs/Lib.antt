pub mod Runs
pub mod lemma
