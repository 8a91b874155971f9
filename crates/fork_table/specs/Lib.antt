pub mod ForkTable
pub mod lemma
