pub mod Behind
pub mod BlocksBehind
pub mod ByNode
pub mod DesktopBehind
pub mod HeadAndComments
pub mod Left
pub mod Room
pub mod Seen
