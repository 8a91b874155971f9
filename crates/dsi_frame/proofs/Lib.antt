pub mod BufferLemmas
pub mod Filling
pub mod FrameLemmas
pub mod HeaderLemmas
pub mod StreamLemmas
