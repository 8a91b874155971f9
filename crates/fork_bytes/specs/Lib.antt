pub mod Blocks
pub mod Kept
pub mod Line
pub mod Plan
pub mod Laws
pub mod lemma
