pub mod Opening
pub mod State
pub mod Takes
pub mod Happens
pub mod Run
pub mod Laws
pub mod TokenLaws
pub mod lemma
