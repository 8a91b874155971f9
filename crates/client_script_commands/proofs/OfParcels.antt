pub mod CommentLemmas
pub mod HeldLemmas
pub mod WriteLemmas
