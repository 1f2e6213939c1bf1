use Rattle.std.proofs.Common.{◌≡◌, take}
use Rattle.redrive.specs.Catalog.{names_to}
use Rattle.redrive.proofs.catalog.Catalog.names_of_target.Given as goal

abbrev pub invariant-loop-queue : goal.invariant-loop-queue
invariant-loop-queue l = l.names.items ≡ names_to (record l.self { queues = take l.queue-index l.queue-items }) l.uid
