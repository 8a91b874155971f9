-- What the code goes by and what its proofs speak of; no public contract cites it.
pub mod Children
pub mod Kept
pub mod Kinds
pub mod Places
