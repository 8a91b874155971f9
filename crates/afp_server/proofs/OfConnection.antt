pub mod Parting
pub mod Places
pub mod Quiet
pub mod Reading
pub mod Turning
pub mod Whole
