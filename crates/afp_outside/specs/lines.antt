pub mod Lines
pub mod lemma
