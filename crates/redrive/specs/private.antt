pub mod Catalog
pub mod ByPlace
pub mod Halves
pub mod Cost
