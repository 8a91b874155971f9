-- What the proofs go by; no public contract cites it.
pub mod Places
