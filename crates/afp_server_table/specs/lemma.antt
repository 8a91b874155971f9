-- What the code and the proofs go by beside the rest; no public contract cites it.
pub mod Links
