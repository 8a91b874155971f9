pub mod LongName
pub mod MacRoman
pub mod Name
pub mod Path
