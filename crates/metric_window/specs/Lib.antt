pub mod Flows
pub mod KeptRows
pub mod Window
