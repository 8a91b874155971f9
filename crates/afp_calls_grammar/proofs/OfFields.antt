pub mod WordLemmas
pub mod PathBytes
pub mod PutLemmas
