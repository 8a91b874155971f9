pub mod Options
pub mod OptionLaws
pub mod Pulse
pub mod RequestIds
pub mod lemma
