pub mod FirstFound
pub mod Pieces
pub mod Names
pub mod Faults
pub mod Placed
pub mod BothWays
pub mod OneFile
