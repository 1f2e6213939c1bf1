pub mod Place
pub mod Progress
pub mod Toy
