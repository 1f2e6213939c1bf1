-- Both are few, since no more are kept than were begun.
use Rattle.std.proofs.Common.{arith}
use Rattle.queue_core.proofs.indexed.AgeRoomLemmas.{few_without}
use Rattle.queue_core.proofs.index.MessageIndex.without_age.Goals as goal

pub overflow_add-result : goal.overflow_add-result
overflow_add-result c = omega (arith, few_without c.args.self.now c.requires)

pub returns-clause-few : goal.returns-clause-few
returns-clause-few c = omega (arith, few_without c.args.self.now c.requires)
