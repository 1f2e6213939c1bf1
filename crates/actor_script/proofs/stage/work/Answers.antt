use Rattle.queue_actor.proofs.EnvelopeLemmas.{envelopes_take}
use Rattle.actor_script.proofs.stage.work.Goals as goal

pub run-requires : goal.run-requires
run-requires g c = record { may = envelopes_take _ }
