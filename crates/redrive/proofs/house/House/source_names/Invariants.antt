use Rattle.std.proofs.Common.{◌≡◌, filter, map, take}
use Rattle.redrive.specs.House.{has_target}
use Rattle.redrive.proofs.house.House.source_names.Given as goal

abbrev pub invariant-loop-queue : goal.invariant-loop-queue
invariant-loop-queue l = l.names.items ≡ map (λ q. q.name) (filter (λ q. has_target l.uid q) (take l.queue-index l.queue-items))
