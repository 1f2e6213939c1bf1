use Rattle.queue_core.specs.private.Records.{slots_in}
use Rattle.queue_core.proofs.costs.SpendingLemmas.{shown-free}
use Rattle.queue_core.proofs.index.MessageIndex.show.Goals as goal

pub returns-clause-cost : goal.returns-clause-cost
returns-clause-cost c = shown-free (slots_in c.args.self.now c.args.number) 0 _ _ _ _ _ _ c.requires.hidden c.rewrite.ensures.cost
