pub mod CallRows
pub mod VolumeLemmas
pub mod FlushRows
