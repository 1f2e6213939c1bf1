use Rattle.std.proofs.Common.{ap, ◌∙◌}
use Rattle.queue_core.specs.Queue.{QueueHistory}
use Rattle.queue_core.specs.Messages.{settings_of}
use Rattle.queue_core.proofs.state.QueueState.settings.Goals as goal

pub returns : goal.returns
returns c = c.self.invariant.1.settings ∙ ap (λ (q : QueueHistory). settings_of q.lines) c.self.view_is
