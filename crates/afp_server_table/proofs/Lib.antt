pub mod Keeping
pub mod Numbers
pub mod Served
pub mod Standing
