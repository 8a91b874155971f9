pub mod Step
pub mod lemma
