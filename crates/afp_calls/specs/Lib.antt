pub mod Answer
pub mod lemma
