pub mod MountLemmas
pub mod ValueLemmas
