pub mod Reads
pub mod Get
pub mod Told
pub mod lemma
