pub mod Gathering
pub mod Judged
