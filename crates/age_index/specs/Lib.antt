pub mod Ages
pub mod Links
pub mod Nodes
pub mod private
