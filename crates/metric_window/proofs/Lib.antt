pub mod FlowLemmas
pub mod KeptLemmas
pub mod MinuteLemmas
pub mod WindowLemmas
pub mod Sending
