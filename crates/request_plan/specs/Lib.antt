pub mod Plan
pub mod Task
