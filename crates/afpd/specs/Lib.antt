pub mod Doors
pub mod Opening
