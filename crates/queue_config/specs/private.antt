pub mod Limits
pub mod SettingRows
pub mod Policy
pub mod Settings
pub mod AlarmRules
pub mod Config
pub mod ConfigKeys
pub mod ConfigText
