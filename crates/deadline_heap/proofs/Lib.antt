pub mod Cost
pub mod HeapOrder
pub mod Keyed
pub mod Moments
pub mod Placing
pub mod RowSearch
