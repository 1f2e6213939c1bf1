pub mod Deadlines
pub mod Heap
pub mod Placed
pub mod Rows
