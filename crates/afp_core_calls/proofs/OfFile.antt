pub mod FileRows
pub mod FileLemmas
pub mod ExchangeRows
pub mod CopyRows
pub mod CopyLemmas
pub mod PairLemmas
