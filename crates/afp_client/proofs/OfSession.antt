pub mod DecidingLemmas
pub mod LinkLemmas
pub mod OpeningLemmas
pub mod RequestLemmas
pub mod ResultLemmas
pub mod RunLemmas
pub mod TakingLemmas
pub mod TokenLemmas
