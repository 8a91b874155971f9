pub mod Contents
pub mod Faults
pub mod Format
pub mod Parcel
pub mod Written
