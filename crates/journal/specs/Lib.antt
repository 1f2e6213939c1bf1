pub mod Moment
pub mod Ticks
pub mod Order
pub mod Journal
pub mod Mark
pub mod Base
pub mod BaseParts
pub mod Weight
