pub mod Escapes
pub mod Elements
