pub mod Requests
pub mod Related
pub mod Moves
pub mod Steps
pub mod Runs
pub mod OverBytes
pub mod OnLines
pub mod Playing
