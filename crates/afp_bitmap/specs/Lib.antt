pub mod Bits
pub mod Field
pub mod Table
pub mod Params
pub mod Offsets
pub mod lemma
