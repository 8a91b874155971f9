pub mod Climb
pub mod Judged
pub mod KeyOrder
pub mod Raising
