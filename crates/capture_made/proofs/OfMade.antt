pub mod AddingLemmas
pub mod MakingLemmas
