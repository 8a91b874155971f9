pub mod CheckLemmas
pub mod ParcelLemmas
