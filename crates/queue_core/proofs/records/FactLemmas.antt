-- What one entry more makes of what a journal says of its messages, and what each entry of a legal journal is about.
-- a message that is not there yet was never received, and transfers that are not confirmed are of the messages that wait, each once
pub use Rattle.queue_core.proofs.CauseLemmas.{IsAbout, about-caused as about}
pub use Rattle.queue_core.proofs.entries.UnbornLemmas.{IsUnborn}
pub use Rattle.queue_core.proofs.PendingLemmas.{IsPendingOf, pending_transfers-push as pending-push}
pub use Rattle.queue_core.proofs.PushLemmas.{Line, settings_from-push, course-push, ran_out-push, expired-split, receives-push, first-push, last-push, content-push, numbered-push, numbered-number, numbered-place, numbered-below, numbered-past, IsNewborn, newborn}
pub use Rattle.queue_core.proofs.SoundLemmas.{IsSound}
