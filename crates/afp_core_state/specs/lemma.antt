pub mod KeptWorld
pub mod LockRanges
pub mod Holding
