pub mod Buffered
pub mod Deframe
pub mod Filling
pub mod Frame
pub mod Replies
pub mod Stream
pub mod lemma
