pub mod Places
pub mod Heads
pub mod KeyBytes
pub mod Creators
pub mod Numbers
pub mod Lists
