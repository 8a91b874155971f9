pub mod AskedHouse
pub mod Complete
pub mod Reporting
pub mod Run
pub mod Setup
pub mod Telling
pub mod lemma
