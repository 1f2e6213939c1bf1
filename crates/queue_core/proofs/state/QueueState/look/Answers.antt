use Rattle.std.proofs.Common.{ap, ◌∙◌}
use Rattle.queue_core.specs.Queue.{look_of}
use Rattle.queue_core.proofs.costs.BoundLemmas.{bound-later}
use Rattle.queue_core.proofs.state.QueueState.look.Goals as goal

pub returns-clause-answer : goal.returns-clause-answer
returns-clause-answer c = c.look_of.ensures ∙ ap look_of c.move_to.ensures.state

pub returns-clause-cost : goal.returns-clause-cost
returns-clause-cost c = bound-later _ _ _ _ c.move_to.ensures.come
