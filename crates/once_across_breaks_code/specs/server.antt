pub mod Asked
pub mod Ties
pub mod Handling
pub mod Parting
pub mod Among
pub mod Pieces
pub mod Fed
