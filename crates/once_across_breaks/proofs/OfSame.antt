pub mod Rows
pub mod Asking
pub mod Rejoining
pub mod Changing
pub mod Beginning
pub mod Opening
