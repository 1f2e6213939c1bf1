pub mod Digits
pub mod Handle
