use Rattle.std.proofs.Common.{◌≡◌, [], map, drop}
use Rattle.queue_config.specs.ConfigKeys.{with_each}
use Rattle.queue_config.specs.ConfigText.{configured_queue}
use Rattle.queue_config.proofs.requested_queues.configured_queues.Given as goal

abbrev pub invariant-loop-queue : goal.invariant-loop-queue
invariant-loop-queue l =
    with_each (λ queue. configured_queue (map (λ q. q.name) l.fn.queues) queue) l.configured.items (drop l.queue-index l.queues)
    ≡ with_each (λ queue. configured_queue (map (λ q. q.name) l.fn.queues) queue) [] l.fn.queues
