-- What the code goes by and what its proofs speak of; no public contract cites it.
pub mod After
pub mod Answered
pub mod Edited
pub mod ForkEffect
pub mod Kept
pub mod Restored
pub mod Tails
