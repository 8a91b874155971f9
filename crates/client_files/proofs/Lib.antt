pub mod AskableLemmas
pub mod GetLemmas
pub mod PutLemmas
pub mod SourceLemmas
pub mod NameLemmas
pub mod NameSteps
pub mod VerifyLemmas
