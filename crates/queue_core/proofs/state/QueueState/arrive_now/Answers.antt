use Rattle.queue_core.proofs.costs.BoundLemmas.{bound-later}
use Rattle.queue_core.proofs.state.QueueState.arrive_now.Goals as goal

pub returns-then-has_accepted-clause-cost : goal.returns-then-has_accepted-clause-cost
returns-then-has_accepted-clause-cost c = λ p before come. bound-later before c.args.ticks.now p _ come
