pub mod OfThreads
