-- What the code goes by and what its proofs speak of; of the public contracts those of connections alone cite it.
pub mod Feeding
pub mod Passing
pub mod Requesting
pub mod Serving
pub mod SessionState
