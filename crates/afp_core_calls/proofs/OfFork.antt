pub mod OnForkLemmas
pub mod ForkCallRows
pub mod OpenForkLemmas
pub mod ForkBytesLemmas
pub mod ForkWriteLemmas
pub mod ForkLockLemmas
