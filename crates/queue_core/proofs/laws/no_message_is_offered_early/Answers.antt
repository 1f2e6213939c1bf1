use Rattle.queue_core.proofs.LastingLemmas.{offered_due, offered_again}
use Rattle.queue_core.proofs.laws.no_message_is_offered_early.Goals as goal

pub returns : goal.returns
returns c = record { due = offered_due; due_again = offered_again }
