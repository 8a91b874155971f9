pub mod Ends
pub mod Script
pub mod Carried
pub mod Stops
pub mod Runs
pub mod lemma
