-- What the code goes by and what its proofs speak of; no public contract cites it.
pub mod CanStep
pub mod Put
pub mod Records
pub mod Touching
