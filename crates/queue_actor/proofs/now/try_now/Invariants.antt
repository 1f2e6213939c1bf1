use Rattle.queue_actor.proofs.NowLemmas.{HasTried}
use Rattle.queue_actor.proofs.now.try_now.Given as goal

abbrev pub invariant-loop-tries : goal.invariant-loop-tries
invariant-loop-tries g l = HasTried l.fn.pass l.pass
