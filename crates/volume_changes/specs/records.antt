pub mod ValueChange
pub mod Differences
pub mod Touched
pub mod TouchedOrder
pub mod Values
pub mod EditTouches
pub mod Laws
