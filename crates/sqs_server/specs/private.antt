pub mod Counts
pub mod Head
