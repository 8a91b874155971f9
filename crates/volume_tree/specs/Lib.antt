pub mod Shown
pub mod Kept
pub mod Answered
pub mod Restored
pub mod Filled
pub mod lemma
