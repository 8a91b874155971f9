pub mod OfTree
pub mod OfSession
pub mod OfVolume
pub mod OfDirectory
pub mod OfFile
pub mod OfFork
pub mod OfDesktop
