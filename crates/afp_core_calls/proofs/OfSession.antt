pub mod UserLemmas
pub mod LoginLemmas
pub mod TokenLemmas
pub mod NameLemmas
pub mod TellingLemmas
