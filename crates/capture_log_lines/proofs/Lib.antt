pub mod OfMade
