use Rattle.std.proofs.Common.{sym, ap}
use Rattle.queue_core.specs.Queue.{QueueHistory}
use Rattle.queue_core.proofs.indexed.QuestionLemmas.{index_of, legal_of}
use Rattle.queue_core.proofs.state.QueueState.gauges.Goals as goal

pub gauges-requires : goal.gauges-requires
gauges-requires c = c.self.invariant.2.indexed.indices

pub returns-clause-counts : goal.returns-clause-counts
returns-clause-counts c =
    c.gauges.ensures c.args.self.now (sym (ap (λ (q : QueueHistory). q.clock) c.self.view_is)) (index_of _ _ c.self.inside.index c.self.view_is c.self.invariant.2)

pub returns-clause-legal : goal.returns-clause-legal
returns-clause-legal c = legal_of _ _ c.self.view_is c.self.invariant.0.legal
