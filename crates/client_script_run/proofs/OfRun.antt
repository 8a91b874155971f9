pub mod LineLemmas
pub mod ScriptLemmas
pub mod StopLemmas
pub mod FaultLemmas
