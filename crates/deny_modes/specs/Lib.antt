pub mod Counters
pub mod Opens
pub mod lemma
