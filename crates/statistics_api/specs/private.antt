pub mod Cut
pub mod Router
