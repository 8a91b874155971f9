pub mod Failing
pub mod Faultless
pub mod HouseEnds
pub mod OneHouse
pub mod RunLaws
