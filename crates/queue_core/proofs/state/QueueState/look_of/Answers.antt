use Rattle.std.proofs.Common.{ap}
use Rattle.queue_core.specs.Queue.{QueueHistory}
use Rattle.queue_core.proofs.commands.LegalLemmas.{look_of-parts}
use Rattle.queue_core.proofs.state.QueueState.look_of.Goals as goal

pub returns : goal.returns
returns c =
    look_of-parts c.args.self.now c.gauges.result c.settings.result c.created.result c.modified.result c.weight.result c.self.inside.clock c.is_closed.result c.gauges.ensures.counts c.settings.ensures
    c.created.ensures c.modified.ensures c.weight.ensures (ap (λ (q : QueueHistory). q.clock) c.self.view_is) c.is_closed.ensures
