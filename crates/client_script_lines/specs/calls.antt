pub mod Asked
pub mod Places
pub mod Requests
pub mod lemma
