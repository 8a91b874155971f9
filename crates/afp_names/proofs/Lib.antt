pub mod LongNameLemmas
pub mod MacRomanLemmas
pub mod NameLemmas
pub mod PathLemmas
pub mod SpellingLemmas
