pub mod loading
pub mod kept
pub mod replies
