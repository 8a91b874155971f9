pub mod Ls
pub mod lemma
