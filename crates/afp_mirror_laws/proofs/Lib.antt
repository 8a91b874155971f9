pub mod RowLemmas
pub mod SweptLemmas
pub mod PairedLemmas
pub mod ReachedLemmas
pub mod ReadBackLemmas
