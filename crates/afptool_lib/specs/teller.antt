pub mod Keepers
pub mod Telling
pub mod Turning
pub mod lemma
