pub mod Scans
pub mod MarkLemmas
pub mod MetricLemmas
pub mod OfferLemmas
pub mod PushLemmas
pub mod CauseLemmas
pub mod AloneLemmas
pub mod PendingLemmas
pub mod SoundLemmas
pub mod LegalSoundLemmas
pub mod BehindLemmas
pub mod OwnRefusalLemmas
pub mod LastingLemmas
pub mod WholeLemmas
mod entries
mod commands
mod records
mod indexed
mod minutes
mod checkpoints
mod costs
