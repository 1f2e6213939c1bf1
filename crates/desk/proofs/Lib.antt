pub mod HistoryLemmas
pub mod Keeping
pub mod PassLemmas
pub mod PrintLemmas
pub mod RowLemmas
pub mod Sending
