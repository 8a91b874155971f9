pub mod Connections
pub mod Counting
pub mod Running
pub mod CaptureState
pub mod Sole
pub mod States
pub mod lemma
