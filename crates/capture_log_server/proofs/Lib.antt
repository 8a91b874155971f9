pub mod ConnectionLemmas
pub mod Feeding
pub mod Histories
pub mod RunningLemmas
