use Rattle.std.proofs.Common.{◌≡◌, ◌≤◌, take, map, vec_len, vec_capacity}
use Rattle.redrive.specs.HouseSteps.{metrics_of}
use Rattle.redrive.proofs.house.House.measure.Given as goal

abbrev pub invariant-loop-queue : goal.invariant-loop-queue
invariant-loop-queue l = record {
  counted : vec_len l.metrics ≡ l.queue-index;
  room : 1000 ≤ vec_capacity l.metrics;
  measured : l.metrics.items ≡ map (λ q. metrics_of l.minute l.alarm q) (take l.queue-index l.queue-items);
}
