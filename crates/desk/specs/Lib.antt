pub mod History
pub mod Printed
pub mod Views
pub mod Held
pub mod private
