use Rattle.queue_core.proofs.entries.StateLemmas.{counts_are_live}
use Rattle.queue_core.proofs.laws.each_live_message_is_in_one_state.Goals as goal

pub returns : goal.returns
returns c = record { counts = λ lines clock. counts_are_live lines clock }
