pub mod GroupLemmas
pub mod AnswerLemmas
