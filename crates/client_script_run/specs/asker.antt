pub mod Read
pub mod Standing
