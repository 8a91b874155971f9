pub mod HeldLocks
pub mod OpenRows
pub mod SessionLemmas
pub mod KeeperLemmas
pub mod ForkLemmas
pub mod RowLemmas
pub mod OnVolumeLemmas
pub mod HoldingLemmas
pub mod SettleLemmas
mod ExchangedForks
mod HeldFiles
pub mod PlannedRows
pub mod TellRows
