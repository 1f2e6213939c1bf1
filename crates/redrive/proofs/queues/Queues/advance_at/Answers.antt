use Rattle.queue_core.specs.Queue.{at_moment}
use Rattle.redrive.proofs.CostLemmas.{done-at}
use Rattle.redrive.proofs.queues.Queues.advance_at.Goals as goal

pub returns-clause-cost : goal.returns-clause-cost
returns-clause-cost c =
    done-at c.args.place c.index_mut.result.now c.advance.new.self (λ q. at_moment q c.args.at) c.args.ticks.now c.advance.new.ticks
    c.self.view_is c.requires c.index_mut.ensures.value c.advance.ensures.state c.advance.ensures.cost
