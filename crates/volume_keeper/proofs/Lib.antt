pub mod OfLoading
pub mod OfKept
pub mod OfReplies
