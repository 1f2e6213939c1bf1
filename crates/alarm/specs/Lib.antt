pub mod AlarmState
pub mod KeptAlarm
