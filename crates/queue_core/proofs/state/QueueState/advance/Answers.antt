use Rattle.queue_core.proofs.costs.BoundLemmas.{bound-later}
use Rattle.queue_core.proofs.state.QueueState.advance.Goals as goal

pub returns-clause-cost : goal.returns-clause-cost
returns-clause-cost c = bound-later _ _ _ _ c.move_to.ensures.come
