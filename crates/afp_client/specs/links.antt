pub mod History
pub mod OnLink
pub mod Coming
pub mod lemma
pub mod Links
pub mod Ends
pub mod Talk
pub mod Laws
