use Rattle.std.proofs.Common.{ap, ◌∙◌}
use Rattle.queue_core.specs.Queue.{QueueHistory}
use Rattle.queue_core.specs.Messages.{is_closed}
use Rattle.queue_core.proofs.state.QueueState.is_closed.Goals as goal

pub returns : goal.returns
returns c = c.self.invariant.1.closed ∙ ap (λ (q : QueueHistory). is_closed q.lines) c.self.view_is
