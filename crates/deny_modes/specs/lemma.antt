pub mod Counters
pub mod ForkOrder
