pub mod Gathering
pub mod Staffing
pub mod Linking
pub mod HouseLemmas
