pub mod Drilling
pub mod Laws
