pub mod AskableLemmas
pub mod SizeLemmas
