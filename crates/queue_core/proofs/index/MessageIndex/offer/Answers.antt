use Rattle.queue_core.specs.private.Records.{slots_in}
use Rattle.queue_core.proofs.costs.SpendingLemmas.{hidden-costs}
use Rattle.queue_core.proofs.index.MessageIndex.offer.Goals as goal

pub returns-clause-cost : goal.returns-clause-cost
returns-clause-cost c = hidden-costs (slots_in c.args.self.now c.args.number) 0 _ _ _ _ _ _ c.requires.here c.rewrite.ensures.cost
