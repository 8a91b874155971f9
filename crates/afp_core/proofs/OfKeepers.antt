pub mod LoadLemmas
pub mod SettleLemmas
