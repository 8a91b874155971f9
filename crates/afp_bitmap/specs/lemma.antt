-- What the code goes by and what its proofs speak of; no public contract cites it.
pub mod Writing
pub mod Spot
pub mod Reading
pub mod Read
pub mod Taking
