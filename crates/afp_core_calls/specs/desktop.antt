pub mod lemma
