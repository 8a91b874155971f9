pub mod ListedIcons
pub mod Mappings
