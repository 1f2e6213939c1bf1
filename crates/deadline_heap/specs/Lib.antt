pub mod Deadlines
pub mod Placed
pub mod private
