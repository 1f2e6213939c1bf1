use Rattle.std.proofs.Common.{◌≡◌, ◌+◌, ◌≤◌, ◌++◌, take, drop, map}
use Rattle.queue_core.specs.Queue.{at_moment}
use Rattle.redrive.specs.Cost.{moment_ticks}
use Rattle.redrive.proofs.queues.Queues.advance_all.Given as goal

abbrev pub invariant-loop-queue : goal.invariant-loop-queue
invariant-loop-queue l = record {
  moved : l.queue-items ≡ map (λ q. at_moment q l.at) (take l.queue-index l.initial.queue-items) ++ drop l.queue-index l.initial.queue-items;
  cost : l.ticks ≤ l.fn.ticks + moment_ticks l.at (take l.queue-index l.initial.queue-items);
}
