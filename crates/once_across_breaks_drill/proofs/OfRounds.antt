pub mod Wholes
pub mod Requests
pub mod Taking
pub mod Exchanging
pub mod OpeningSteps
pub mod Linking
pub mod Calling
pub mod Tokens
