pub mod FileCalls
pub mod lemma
