pub mod parts
pub mod commands
pub mod get
pub mod ls
pub mod parcels
