pub mod Children
pub mod Kept
pub mod Kinds
pub mod lemma
