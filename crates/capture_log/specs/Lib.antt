pub mod Judged
pub mod Reading
pub mod SetUp
pub mod Standing
pub mod Taking
pub mod lemma
