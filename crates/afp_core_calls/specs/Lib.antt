pub mod volume
pub mod directory
pub mod file
pub mod fork
pub mod desktop
pub mod lemma
