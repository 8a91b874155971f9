pub mod lines
pub mod texts
pub mod calls
