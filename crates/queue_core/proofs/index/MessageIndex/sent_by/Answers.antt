-- The least moment is past the time.
use Rattle.queue_core.proofs.indexed.DueLemmas.{none_sent}
use Rattle.queue_core.proofs.index.MessageIndex.sent_by.Goals as goal

pub returns-else-sent-moment-clause-none : goal.returns-else-sent-moment-clause-none
returns-else-sent-moment-clause-none c =
    none_sent c.args.self.now (c.in_ok-sent.sent, c.in_ok-sent.number) c.args.moment c.requires c.in_ok-sent.ensures c.if-sent-moment.false
