use Rattle.queue_core.specs.Queue.{outcome_at, IsExactWithRoom, after_answer}
use Rattle.redrive.proofs.CostLemmas.{at-place, done-at}
use Rattle.redrive.proofs.queues.Queues.perform_at.Goals as goal

pub returns-clause-cost : goal.returns-clause-cost
returns-clause-cost c =
    done-at c.args.place c.index_mut.result.now c.perform.new.self (λ q. after_answer q c.args.at c.args.command.now c.perform.result) c.args.ticks.now c.perform.new.ticks
    c.self.view_is c.requires.within c.index_mut.ensures.value c.perform.ensures.state c.perform.ensures.cost

pub returns-clause-room : goal.returns-clause-room
returns-clause-room c =
    at-place c.args.place c.index_mut.result.now (λ q. IsExactWithRoom q (outcome_at q c.args.at c.args.command.now) c.perform.result)
    c.self.view_is c.requires.within c.index_mut.ensures.value c.perform.ensures.room
