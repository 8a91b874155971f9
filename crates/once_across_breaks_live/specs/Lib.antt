pub mod Skips
pub mod Steps
pub mod Happens
pub mod Once
pub mod lemma
