use Rattle.std.proofs.Common.{◌∙◌, ap}
use Rattle.queue_core.specs.Queue.{QueueHistory}
use Rattle.queue_core.specs.Messages.{has_accepted}
use Rattle.queue_core.proofs.entries.AcceptedLemmas.{holds_are}
use Rattle.queue_core.proofs.state.QueueState.has_accepted.Goals as goal

pub returns : goal.returns
returns c =
    c.contains.ensures ∙ holds_are c.self.inside.accepted c.self.inside.journal.lines c.self.invariant.3 c.args.origin.now.uid c.args.origin.now.number
    ∙ ap (λ (q : QueueHistory). has_accepted q.lines c.args.origin.now.uid c.args.origin.now.number) c.self.view_is
