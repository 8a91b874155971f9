pub mod VolumeCalls
pub mod lemma
