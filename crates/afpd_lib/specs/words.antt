pub mod Command
pub mod Users
pub mod Places
pub mod Words
pub mod lemma
