-- What the code goes by; no public contract cites it.
pub mod Given
pub mod Askings
pub mod Reads
