pub mod Free
pub mod Linking
pub mod Slots
