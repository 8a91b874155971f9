-- What the code goes by and what its proofs speak of; no public contract cites it.
pub mod Lanes
pub mod Near
pub mod Running
