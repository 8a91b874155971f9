pub mod line
pub mod asker
pub mod run
