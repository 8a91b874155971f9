pub mod Input
pub mod Putting
pub mod Taking
pub mod lemma
