pub mod Totals
pub mod Growing
pub mod Steps
pub mod Turns
pub mod Passing
