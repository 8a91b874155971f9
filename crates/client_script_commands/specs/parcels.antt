pub mod Comments
pub mod Found
pub mod Pack
pub mod Unpack
pub mod lemma
