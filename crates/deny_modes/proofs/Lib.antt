pub mod Counting
pub mod Forks
pub mod Rows
pub mod VolumeOpenLemmas
