pub mod FoundNode
