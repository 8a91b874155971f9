pub mod Going
pub mod LaneLemmas
pub mod NearLemmas
pub mod Putting
pub mod RunningLemmas
pub mod Scheduling
