-- The least moment is past the time.
use Rattle.queue_core.proofs.indexed.DueLemmas.{none_due}
use Rattle.queue_core.proofs.index.MessageIndex.due_by.Goals as goal

pub returns-else-moment-at-clause-none : goal.returns-else-moment-at-clause-none
returns-else-moment-at-clause-none c =
    none_due c.args.self.now (c.in_ok-moment.moment, c.in_ok-moment.number) c.args.at c.requires c.in_ok-moment.ensures c.if-moment-at.false
