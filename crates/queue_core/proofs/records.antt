pub mod FactLemmas
pub mod ToldLemmas
pub mod RecordLemmas
pub mod SummaryLemmas
pub mod KeptRecordLemmas
pub mod ChangeLemmas
pub mod AppliedLemmas
