pub mod Ascending
pub mod Halving
