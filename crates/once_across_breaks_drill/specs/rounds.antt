pub mod Lines
pub mod Laws
pub mod Callers
pub mod Rounds
pub mod Opening
pub mod Linked
pub mod lemma
pub mod Tokens
