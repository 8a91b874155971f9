pub mod OfLog
pub mod OfNotes
