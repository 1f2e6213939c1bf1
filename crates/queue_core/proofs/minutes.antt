pub mod SumLemmas
pub mod CountedLemmas
pub mod WindowLemmas
pub mod RowLemmas
pub mod WatchLemmas
