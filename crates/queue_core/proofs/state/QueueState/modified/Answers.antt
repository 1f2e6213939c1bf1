use Rattle.std.proofs.Common.{ap, ◌∙◌}
use Rattle.queue_core.specs.Queue.{QueueHistory}
use Rattle.queue_core.specs.Messages.{modified_time}
use Rattle.queue_core.proofs.state.QueueState.modified.Goals as goal

pub returns : goal.returns
returns c = c.self.invariant.1.modified ∙ ap (λ (q : QueueHistory). modified_time q.lines) c.self.view_is
