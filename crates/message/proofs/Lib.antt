pub mod NameLemmas
pub mod IdLemmas
pub mod AttributeLemmas
pub mod SortedLemmas
pub mod ContentLemmas
