use Rattle.std.proofs.Common.{refl}
use Rattle.sqs_server.proofs.front.Front.await_queue.Goals as goal

pub returns-in-Pending-clause-leads : goal.returns-in-Pending-clause-leads
returns-in-Pending-clause-leads g c = (_, refl, refl)
