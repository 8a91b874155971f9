pub mod OfEdits
pub mod OfPlans
