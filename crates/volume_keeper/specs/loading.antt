pub mod Loading
pub mod lemma
