pub mod NamedVolume
