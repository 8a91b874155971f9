pub mod Checking
pub mod Lines
pub mod Parcelling
pub mod Tool
pub mod lemma
