pub mod Option
pub mod Start
pub mod Misuse
