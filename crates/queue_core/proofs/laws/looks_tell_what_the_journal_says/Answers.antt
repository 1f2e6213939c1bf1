use Rattle.queue_core.proofs.LastingLemmas.{look_after}
use Rattle.queue_core.proofs.laws.looks_tell_what_the_journal_says.Goals as goal

pub returns : goal.returns
returns c = record { look = look_after }
