pub mod FirstParts
pub mod ReadUsers
pub mod ReadVolumes
