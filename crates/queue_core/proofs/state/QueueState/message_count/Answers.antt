use Rattle.std.proofs.Common.{ap, ◌∙◌}
use Rattle.queue_core.specs.Queue.{QueueHistory}
use Rattle.queue_core.specs.Messages.{message_count}
use Rattle.queue_core.proofs.entries.TallyLemmas.{received-count}
use Rattle.queue_core.proofs.state.QueueState.message_count.Goals as goal

pub returns : goal.returns
returns c = c.self.invariant.1.messages ∙ received-count c.self.inside.journal.lines c.self.inside.clock ∙ ap (λ (q : QueueHistory). message_count q.lines) c.self.view_is
