pub mod Locks
pub mod lemma
