pub mod Ages
pub mod Links
pub mod Nodes
