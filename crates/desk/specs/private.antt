pub mod KeptRows
pub mod Printed
pub mod Views
pub mod Rule
pub mod Steps
pub mod Held
