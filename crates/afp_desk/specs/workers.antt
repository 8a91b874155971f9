pub mod Keeping
pub mod Workers
pub mod Gathers
pub mod Staffs
pub mod Doors
pub mod House
