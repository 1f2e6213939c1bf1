pub mod DecimalLemmas
pub mod ArnLemmas
pub mod ConfigLemmas
pub mod AlarmLemmas
pub mod EmptyText
pub mod KeyLemmas
pub mod Utf8Lemmas
pub mod NameLemmas
