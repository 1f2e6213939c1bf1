use Rattle.queue_core.proofs.costs.BoundLemmas.{bound-later}
use Rattle.queue_core.proofs.state.QueueState.arrive_shared_now.Goals as goal

pub returns-then-has_accepted-clause-cost : goal.returns-then-has_accepted-clause-cost
returns-then-has_accepted-clause-cost c = λ p before come. bound-later before c.args.ticks.now p _ come

pub returns-in_err-share-clause-cost : goal.returns-in_err-share-clause-cost
returns-in_err-share-clause-cost c = λ p before come. bound-later before c.args.ticks.now p _ come
