pub mod After
pub mod Changed
pub mod Planned
pub mod Whole
pub mod lemma
