use Rattle.std.proofs.Common.{◌≡◌, ap, arith}
use Rattle.journal.specs.Weight.{weight_of}
use Rattle.queue_core.specs.Messages.{message_count}
use Rattle.queue_core.specs.Queue.{QueueHistory}
use Rattle.queue_core.proofs.records.KeptRecordLemmas.{born_few}
use Rattle.queue_core.proofs.indexed.IndexLemmas.{born_is}
use Rattle.queue_core.proofs.state.QueueState.messages_so_far.Goals as goal

-- there is a count of receives for each message
pub returns-clause-small : goal.returns-clause-small
returns-clause-small c =
    let born = born_is c.self.inside.journal.lines c.self.inside.clock c.self.inside.index c.self.invariant.2 in
    let count = ap (λ (q : QueueHistory). message_count q.lines) c.self.view_is in
    omega (arith, born, count, born_few c.self.inside.index, c.message_count-count.ensures)

pub returns-clause-weight : goal.returns-clause-weight
returns-clause-weight c =
    let lines : weight_of c.self.inside.journal.lines ≡ weight_of c.args.self.now.lines = ap (λ (q : QueueHistory). weight_of q.lines) c.self.view_is in
    let limit = ap (λ s. s.limits.max_lines) c.self-inside.view_is in
    omega (arith, lines, limit, c.self.invariant.0.within, c.self-inside.invariant.most_lines)
