pub mod DirectoryCalls
pub mod lemma
