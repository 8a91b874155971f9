pub mod Kept
pub mod Changing
pub mod Commits
pub mod Loading
pub mod ForkChanging
pub mod LineLaws
pub mod lemma
