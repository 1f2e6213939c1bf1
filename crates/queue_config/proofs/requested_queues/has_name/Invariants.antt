use Rattle.std.proofs.Common.{◌≡◌, drop}
use Rattle.queue_config.specs.ConfigText.{has_name}
use Rattle.queue_config.proofs.requested_queues.has_name.Given as goal

abbrev pub invariant-loop-queue : goal.invariant-loop-queue
invariant-loop-queue l = has_name l.name (drop l.queue-index l.queues) ≡ has_name l.name l.queues
