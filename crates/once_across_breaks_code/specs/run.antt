pub mod Things
pub mod Doings
pub mod Mirrors
pub mod Premises
pub mod Laws
