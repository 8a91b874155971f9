pub mod Places
pub mod ServerState
pub mod Turn
