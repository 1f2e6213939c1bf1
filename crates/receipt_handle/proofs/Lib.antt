pub mod DigitLemmas
pub mod HandleLemmas
