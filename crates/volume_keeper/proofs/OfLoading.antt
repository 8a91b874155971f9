pub mod SoundRows
pub mod Versions
pub mod Loads
pub mod Zeroed
pub mod DesktopAgain
pub mod Filling
