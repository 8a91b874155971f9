pub mod GatheringLemmas
pub mod LineLemmas
pub mod SetUpLemmas
pub mod SoFar
pub mod TakingLemmas
pub mod StandingLemmas
