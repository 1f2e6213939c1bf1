use Rattle.std.proofs.Common.{◌≡◌, map, take}
use Rattle.redrive.specs.Listing.{names_beginning}
use Rattle.redrive.proofs.house.House.list.Given as goal

abbrev pub invariant-loop-queue : goal.invariant-loop-queue
invariant-loop-queue l = l.names.items ≡ names_beginning l.prefix (map (λ q. q.name) (take l.queue-index l.queue-items))
