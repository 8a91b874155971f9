pub mod Pairs
pub mod StandingLemmas
