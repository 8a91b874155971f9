pub mod CallRows
pub mod DeskLemmas
