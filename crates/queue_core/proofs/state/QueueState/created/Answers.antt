use Rattle.std.proofs.Common.{ap, ◌∙◌}
use Rattle.queue_core.specs.Queue.{QueueHistory}
use Rattle.queue_core.specs.Messages.{created_time}
use Rattle.queue_core.proofs.state.QueueState.created.Goals as goal

pub returns : goal.returns
returns c = c.self.invariant.1.created ∙ ap (λ (q : QueueHistory). created_time q.lines) c.self.view_is
