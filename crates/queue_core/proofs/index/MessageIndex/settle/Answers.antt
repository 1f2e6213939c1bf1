use Rattle.queue_core.proofs.costs.SpendingLemmas.{free_then}
use Rattle.queue_core.proofs.index.MessageIndex.settle.Goals as goal

pub returns-in-Some-clause-cost : goal.returns-in-Some-clause-cost
returns-in-Some-clause-cost c = free_then _ _ _ _ _ _ _ _ _ c.show_due.ensures.cost c.let_go.ensures.cost
