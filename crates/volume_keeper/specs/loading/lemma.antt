pub mod Loading
pub mod Rebuilt
