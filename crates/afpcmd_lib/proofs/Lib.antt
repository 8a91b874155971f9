pub mod AskableLemmas
pub mod StatusLemmas
