pub mod FreshVolumes
pub mod TellerLemmas
