pub mod OnForkBytes
pub mod Opening
pub mod SettingLength
