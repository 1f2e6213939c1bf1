pub mod Sheet
pub mod Queue
pub mod Numbers
pub mod Printed
pub mod Shown
pub mod Rule
pub mod private
