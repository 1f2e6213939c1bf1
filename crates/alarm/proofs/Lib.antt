pub mod KeptLemmas
pub mod StateLemmas
pub mod Sending
