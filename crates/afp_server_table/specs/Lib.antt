pub mod AtOnce
pub mod lemma
