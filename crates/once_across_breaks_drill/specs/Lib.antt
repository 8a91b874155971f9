pub mod steps
pub mod rounds
pub mod run
