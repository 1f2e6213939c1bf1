pub mod Actions
pub mod Level
pub mod Line
pub mod Refusals
