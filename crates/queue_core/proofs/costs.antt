pub mod TouchLemmas
pub mod BoundLemmas
pub mod SpendingLemmas
pub mod CostLemmas
