use Rattle.queue_actor.proofs.NowLemmas.{tried_nothing, tried_again}
use Rattle.queue_actor.proofs.now.try_now.Goals as goal

pub loop-tries-init : goal.loop-tries-init
loop-tries-init g c = tried_nothing c.args.pass.now

pub loop-tries-preserved : goal.loop-tries-preserved
loop-tries-preserved g c = tried_again c.args.pass.now c.loop-tries.pass c.ask_now.new.pass c.loop-tries.invariant c.in_default.ensures.none c.in_default.ensures.busy
