use Rattle.queue_core.proofs.costs.BoundLemmas.{bound-later}
use Rattle.queue_core.proofs.state.QueueState.begin.Goals as goal

pub returns-in-Some-clause-cost : goal.returns-in-Some-clause-cost
returns-in-Some-clause-cost c = bound-later _ _ _ _ c.move_to.ensures.come

pub returns-in-None-clause-cost : goal.returns-in-None-clause-cost
returns-in-None-clause-cost c = bound-later _ _ _ _ c.move_to.ensures.come
