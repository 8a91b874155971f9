-- What the code goes by and what its proofs speak of; no public contract cites it.
pub mod Steps
pub mod Whole
pub mod Writes
