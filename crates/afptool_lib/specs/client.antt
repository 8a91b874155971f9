pub mod Command
pub mod Words
pub mod Running
pub mod Worked
