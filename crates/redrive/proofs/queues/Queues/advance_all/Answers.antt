use Rattle.std.proofs.Common.{arith, sym, ap, ◌∙◌}
use Rattle.queue_core.specs.Queue.{QueueHistory, at_moment}
use Rattle.redrive.proofs.RegistryLemmas.{map-next}
use Rattle.redrive.proofs.CostLemmas.{looked-next}
use Rattle.redrive.proofs.queues.Queues.advance_all.Goals as goal

pub loop-queue-preserved : goal.loop-queue-preserved
loop-queue-preserved c = record {
  moved = map-next (λ q. at_moment q c.args.at) c.deref_mut-queue-items.result.now c.loop-queue.queue-items c.loop-queue.queue-index c.queue-item.result c.look.new.self
      c.loop-queue.invariant.moved (omega arith) c.queue-item.is (c.look.ensures.state ∙ ap (λ (q : QueueHistory). at_moment q c.args.at) (sym c.queue-item.is));
  cost = looked-next c.args.at c.deref_mut-queue-items.result.now c.loop-queue.queue-items c.loop-queue.queue-index c.queue-item.result c.look.new.self c.args.ticks.now c.loop-queue.ticks c.look.new.ticks
      c.loop-queue.invariant.moved (omega arith) c.queue-item.is (c.look.ensures.state ∙ ap (λ (q : QueueHistory). at_moment q c.args.at) (sym c.queue-item.is)) c.loop-queue.invariant.cost c.look.ensures.cost;
}
